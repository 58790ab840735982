-- A side that has nothing but nulls: each comparison with it is unknown.
use Rattle.std.proofs.Common.{◌≡◌, ◌<◌, Bool, List, [], ◌∷◌, length, Option, Some, None, refl, ap, ◌∙◌, arith}
use Rattle.scan_base.specs.declared.comparison.Comparison.{Comparison}
use Rattle.scan_base.specs.declared.comparison.Comparison.TheVariants.{Equal, NotEqual, Less, LessOrEqual, Greater, GreaterOrEqual}
use Rattle.scan_base.specs.declared.predicate.Operand.{Operand}
use Rattle.scan_base.specs.declared.truth.Truth.TheVariants.{False, Unknown}
use Rattle.scan_base.specs.declared.value.Value.{Value}
use Rattle.scan_base.specs.Truth.{truth_or}
use Rattle.batch_skipping.specs.PredicateTruths.{between_sides, can_be_among, can_be_within, can_compare, less_between, side_of}
use Rattle.batch_skipping.specs.PossibleTruths.{only, over, over_both}
use Rattle.batch_stats.specs.Stats.{StatsAt}

right_none : (test : Value × Value → Value × Value → Bool × Bool) (nulls : Bool) (b : Option (Value × Value)) → between_sides test nulls b None ≡ only Unknown
right_none test nulls None = refl
right_none test nulls (Some b) = refl

pub nulls_compared : (comparison : Comparison) (a b : StatsAt) → a.ends ≡ None → can_compare comparison a b ≡ only Unknown
unfolding can_compare over
nulls_compared Equal a b e = rw e refl
nulls_compared NotEqual a b e = rw e refl
nulls_compared Less a b e = rw e refl
nulls_compared Greater a b e = rw (e, right_none less_between) refl
nulls_compared LessOrEqual a b e = rw (e, right_none less_between) refl
nulls_compared GreaterOrEqual a b e = rw e refl

pub nulls_within : (a low high : StatsAt) → a.ends ≡ None → can_be_within a low high ≡ only Unknown
unfolding over_both
nulls_within a low high e = rw (nulls_compared GreaterOrEqual a low e, nulls_compared LessOrEqual a high e) refl

last_unknown : over_both truth_or (only Unknown) (only False) ≡ only Unknown
unfolding over_both
last_unknown = refl

more_unknown : over_both truth_or (only Unknown) (only Unknown) ≡ only Unknown
unfolding over_both
more_unknown = refl

pub nulls_among : {C : Type 0} (stats : C → StatsAt) (a : StatsAt) (items : List (Operand C)) → a.ends ≡ None → 0 < length items →
    can_be_among stats a items ≡ only Unknown
nulls_among stats a [] e some = absurd (omega (arith, some))
nulls_among stats a (item ∷ []) e some =
    ap (λ p. over_both truth_or p (only False)) (nulls_compared Equal a (side_of stats item) e) ∙ last_unknown
nulls_among stats a (item ∷ (next ∷ items)) e some =
    ap (λ p. over_both truth_or p (can_be_among stats a (next ∷ items))) (nulls_compared Equal a (side_of stats item) e)
    ∙ ap (over_both truth_or (only Unknown)) (nulls_among stats a (next ∷ items) e (omega arith)) ∙ more_unknown
