-- The possible truths of a predicate, from the statistics of each column.
use Rattle.std.specs.Prelude.{Bool, false, not, ◌&&◌, ◌||◌, if◌then◌else◌, List, [], ◌∷◌, Option}
use Rattle.std.specs.Prelude.{Some, None, is_some}
use Rattle.scan_base.specs.declared.comparison.Comparison.{Comparison}
use Rattle.scan_base.specs.declared.comparison.Comparison.TheVariants.{Equal, NotEqual, Less}
use Rattle.scan_base.specs.declared.comparison.Comparison.TheVariants.{LessOrEqual, Greater}
use Rattle.scan_base.specs.declared.comparison.Comparison.TheVariants.{GreaterOrEqual}
use Rattle.scan_base.specs.declared.predicate.Operand.{Operand}
use Rattle.scan_base.specs.declared.predicate.Operand.TheVariants.{Column, Literal}
use Rattle.scan_base.specs.declared.truth.Truth.TheVariants.{False, Unknown}
use Rattle.scan_base.specs.declared.value.Value.{Value}
use Rattle.scan_base.specs.Comparison.{order_of}
use Rattle.scan_base.specs.Predicate.{Pred, conjunction, disjunction, negation, truth_test}
use Rattle.scan_base.specs.Predicate.{comparing, between, membership, null_test, constant}
use Rattle.scan_base.specs.Truth.{truth_and, truth_or, truth_not, truth_is, negated_if}
use Rattle.batch_skipping.specs.declared.possible_truths.PossibleTruths.{PossibleTruths}
use Rattle.batch_skipping.specs.PossibleTruths.{only, over, over_both}
use Rattle.batch_stats.specs.Stats.{StatsAt, stats_of, stand, has_nulls}

-- a literal is a range of one value
abbrev pub side_of : {C : Type 0} → (C → StatsAt) → Operand C → StatsAt
side_of stats (Column column) = stats column
side_of stats (Literal value) = stats_of (value ∷ [])

-- whether all values between these ends, and between those, are one value
abbrev pub is_one_value : Value × Value → Value × Value → Bool
is_one_value a b = stand Equal a.0 a.1 && (stand Equal b.0 b.1 && stand Equal a.0 b.0)

-- whether `=` can be true, and false, of values between these ends
abbrev pub equal_between : Value × Value → Value × Value → Bool × Bool
equal_between a b = (stand LessOrEqual a.0 b.1 && stand LessOrEqual b.0 a.1, not (is_one_value a b))

-- whether `<` can be true, and false
abbrev pub less_between : Value × Value → Value × Value → Bool × Bool
less_between a b = (stand Less a.0 b.1, stand GreaterOrEqual a.1 b.0)

-- The possible truths of a comparison of two sides, by a test of their ends: only unknown where a
-- side has no value, and of sides of different classes.
abbrev pub between_sides : (Value × Value → Value × Value → Bool × Bool) → Bool →
    Option (Value × Value) → Option (Value × Value) → PossibleTruths
between_sides test nulls None b = only Unknown
between_sides test nulls (Some a) None = only Unknown
between_sides test nulls (Some a) (Some b) =
    if is_some (order_of a.0 b.0)
    then record { can_true = (test a b).0; can_false = (test a b).1; can_unknown = nulls }
    else only Unknown

-- the same, of the statistics of both sides
abbrev pub of_sides : (Value × Value → Value × Value → Bool × Bool) → StatsAt → StatsAt →
    PossibleTruths
of_sides test a b = between_sides test (has_nulls a || has_nulls b) a.ends b.ends

-- the six comparisons, each by `=` or `<`
unfoldable pub can_compare : Comparison → StatsAt → StatsAt → PossibleTruths
can_compare Equal a b = of_sides equal_between a b
can_compare NotEqual a b = over truth_not (of_sides equal_between a b)
can_compare Less a b = of_sides less_between a b
can_compare Greater a b = of_sides less_between b a
can_compare LessOrEqual a b = over truth_not (of_sides less_between b a)
can_compare GreaterOrEqual a b = over truth_not (of_sides less_between a b)

-- IS NULL
abbrev pub can_be_null : StatsAt → PossibleTruths
can_be_null a = record { can_true = has_nulls a; can_false = is_some a.ends; can_unknown = false }

-- the OR of the equalities with each item
abbrev pub can_be_among : {C : Type 0} → (C → StatsAt) → StatsAt → List (Operand C) → PossibleTruths
can_be_among stats a [] = only False
can_be_among stats a (item ∷ items) =
    over_both truth_or (can_compare Equal a (side_of stats item)) (can_be_among stats a items)

-- BETWEEN
abbrev pub can_be_within : StatsAt → StatsAt → StatsAt → PossibleTruths
can_be_within a low high =
    over_both truth_and (can_compare GreaterOrEqual a low) (can_compare LessOrEqual a high)

-- the possible truths of a predicate, where `stats` says the statistics of each column
abbrev pub can : {C : Type 0} → (C → StatsAt) → Pred C → PossibleTruths
can stats (conjunction p q) = over_both truth_and (can stats p) (can stats q)
can stats (disjunction p q) = over_both truth_or (can stats p) (can stats q)
can stats (negation p) = over truth_not (can stats p)
can stats (truth_test negated tested p) =
    over (negated_if negated) (over (λ x. truth_is x tested) (can stats p))
can stats (comparing comparison a b) = can_compare comparison (side_of stats a) (side_of stats b)
can stats (between negated a low high) = over (negated_if negated)
    (can_be_within (side_of stats a) (side_of stats low) (side_of stats high))
can stats (membership negated a items) =
    over (negated_if negated) (can_be_among stats (side_of stats a) items)
can stats (null_test negated a) = over (negated_if negated) (can_be_null (side_of stats a))
can stats (constant truth) = only truth
