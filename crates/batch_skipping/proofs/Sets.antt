-- What a truth table gives over sets of truths.
use Rattle.std.proofs.Common.{◌≡◌, Bool, true, false, ◌&&◌, ◌||◌, refl, ◌∙◌}
use Rattle.std.specs.List.{list_any}
use Rattle.std.proofs.lemmas.Bool.{or_left, or_right, and_from}
use Rattle.scan_base.specs.declared.truth.Truth.{Truth}
use Rattle.scan_base.specs.declared.truth.Truth.TheVariants.{True, False, Unknown}
use Rattle.batch_skipping.specs.declared.possible_truths.PossibleTruths.{PossibleTruths}
use Rattle.batch_skipping.specs.PossibleTruths.{has, set_of, same_truth, all_truths, only, over, over_both}

pub has_set : (test : Truth → Bool) (t : Truth) → has (set_of test) t ≡ test t
has_set test True = refl
has_set test False = refl
has_set test Unknown = refl

pub itself : (t : Truth) → same_truth t t ≡ true
itself True = refl
itself False = refl
itself Unknown = refl

any_truth : (test : Truth → Bool) (x : Truth) → test x ≡ true → list_any test all_truths ≡ true
any_truth test True e = or_left (test True) (test False || (test Unknown || false)) e
any_truth test False e = or_right (test True) (test False || (test Unknown || false)) (or_left (test False) (test Unknown || false) e)
any_truth test Unknown e =
    or_right (test True) (test False || (test Unknown || false))
    (or_right (test False) (test Unknown || false) (or_left (test Unknown) false e))

-- a set of one truth has it
pub has_only : (t : Truth) → has (only t) t ≡ true
has_only t = has_set (same_truth t) t ∙ itself t

-- what a table gives of a truth of a set is in the set that it gives
pub has_over : (table : Truth → Truth) (a : PossibleTruths) (x : Truth) → has a x ≡ true → has (over table a) (table x) ≡ true
unfolding over
has_over table a x e =
    let test : Truth → Truth → Bool = λ t y. has a y && same_truth (table y) t in
    has_set (λ t. list_any (test t) all_truths) (table x)
    ∙ any_truth (test (table x)) x (and_from (has a x) (same_truth (table x) (table x)) e (itself (table x)))

pub has_both : (table : Truth → Truth → Truth) (a b : PossibleTruths) (x y : Truth) → has a x ≡ true → has b y ≡ true →
    has (over_both table a b) (table x y) ≡ true
unfolding over_both
has_both table a b x y e f =
    let test : Truth → Truth → Truth → Bool = λ t v w. has a v && (has b w && same_truth (table v w) t) in
    let t = table x y in
    has_set (λ s. list_any (λ v. list_any (test s v) all_truths) all_truths) t
    ∙ any_truth (λ v. list_any (test t v) all_truths) x
    (any_truth (test t x) y (and_from (has a x) (has b y && same_truth (table x y) t) e (and_from (has b y) (same_truth (table x y) t) f (itself t))))
