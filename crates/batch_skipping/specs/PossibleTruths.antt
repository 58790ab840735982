-- Sets of truths, and what a truth table gives over them.
use Rattle.std.specs.Prelude.{Bool, ◌&&◌, List, [], ◌∷◌}
use Rattle.std.specs.List.{list_any}
use Rattle.scan_base.specs.declared.truth.Truth.{Truth}
use Rattle.scan_base.specs.declared.truth.Truth.TheVariants.{True, False, Unknown}
use Rattle.scan_base.specs.Truth.{keeps, truth_is}
use Rattle.batch_skipping.specs.declared.possible_truths.PossibleTruths.{PossibleTruths}

-- whether a truth is in a set
abbrev pub has : PossibleTruths → Truth → Bool
has possible True = possible.can_true
has possible False = possible.can_false
has possible Unknown = possible.can_unknown

-- the set of the truths that pass a test
abbrev pub set_of : (Truth → Bool) → PossibleTruths
set_of test = record { can_true = test True; can_false = test False; can_unknown = test Unknown }

-- whether two truths are one
abbrev pub same_truth : Truth → Truth → Bool
same_truth a b = keeps (truth_is a b)

abbrev pub all_truths : List Truth
all_truths = True ∷ False ∷ Unknown ∷ []

-- the set of one truth
abbrev pub only : Truth → PossibleTruths
only truth = set_of (same_truth truth)

-- every truth that a table gives of one truth of a set
unfoldable pub over : (Truth → Truth) → PossibleTruths → PossibleTruths
over table a = set_of (λ t. list_any (λ x. has a x && same_truth (table x) t) all_truths)

-- every truth that a table gives of a truth of the one set and a truth of the other
unfoldable pub over_both : (Truth → Truth → Truth) → PossibleTruths → PossibleTruths →
    PossibleTruths
over_both table a b =
    set_of (λ t. list_any
    (λ x. list_any (λ y. has a x && (has b y && same_truth (table x y) t)) all_truths) all_truths)
