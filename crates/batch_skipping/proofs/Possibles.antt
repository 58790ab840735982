-- The truth of a predicate is a possible one.
use Rattle.std.proofs.Common.{◌≡◌, ℕ, true, false, List, [], ◌∷◌, Option, Some, None, is_some, refl, ap}
use Rattle.std.proofs.lemmas.Cmp.{tied_itself, nat_list_cmp_total, int_cmp_total}
use Rattle.std.specs.Ordering.{is_le}
use Rattle.std.specs.declared.cmp.Ordering.{Ordering}
use Rattle.scan_base.specs.declared.comparison.Comparison.TheVariants.{Equal, LessOrEqual, GreaterOrEqual}
use Rattle.scan_base.specs.declared.predicate.Operand.{Operand}
use Rattle.scan_base.specs.declared.predicate.Operand.TheVariants.{Column, Literal}
use Rattle.scan_base.specs.declared.truth.Truth.TheVariants.{False}
use Rattle.scan_base.specs.declared.value.Value.{Value}
use Rattle.scan_base.specs.declared.value.Value.TheVariants.{Null, Bool as Flag, Int, Text}
use Rattle.scan_base.specs.Comparison.{compared, nullness}
use Rattle.scan_base.specs.Predicate.{Pred, conjunction, disjunction, negation, truth_test, comparing, between, membership, null_test, constant, operand_value, within, any_equal, truth_of}
use Rattle.scan_base.specs.Truth.{keeps, truth_from, truth_and, truth_or, truth_not, truth_is, negated_if}
use Rattle.batch_skipping.specs.PredicateTruths.{side_of, can_compare, can_be_null, can_be_among, can_be_within, can}
use Rattle.batch_skipping.specs.Laws.{IsBetween, IsWithin, TruthIsPossible}
use Rattle.batch_skipping.specs.PossibleTruths.{has, over}
use Rattle.batch_stats.specs.Stats.{StatsAt, stats_of}
use Rattle.batch_skipping.proofs.Compared.{compare_law}
use Rattle.batch_skipping.proofs.Sets.{has_only, has_over, has_both}

-- a value is within its own statistics
literal_within : (value : Value) → IsWithin (stats_of (value ∷ [])) value
literal_within Null = refl
literal_within (Flag true) = (refl, refl)
literal_within (Flag false) = (refl, refl)
literal_within (Int x) =
    let e = ap (λ (o : Ordering). keeps (truth_from (is_le o))) (tied_itself int_cmp_total x) in (e, e)
literal_within (Text x) =
    let e = ap (λ (o : Ordering). keeps (truth_from (is_le o))) (tied_itself nat_list_cmp_total x) in (e, e)

some_ends : (ends : Option (Value × Value)) (value : Value) → IsBetween ends value → is_some ends ≡ true
some_ends None value h = absurd h
some_ends (Some ends) value h = refl

null_law : (a : StatsAt) (value : Value) → IsWithin a value → has (can_be_null a) (nullness value) ≡ true
null_law a Null h = h
null_law a (Flag x) h = some_ends a.ends (Flag x) h
null_law a (Int x) h = some_ends a.ends (Int x) h
null_law a (Text x) h = some_ends a.ends (Text x) h

module _ (stats : ℕ → StatsAt) (cell : ℕ → Value) (allowed : (column : ℕ) → IsWithin (stats column) (cell column)) where
  side_within : (operand : Operand ℕ) → IsWithin (side_of stats operand) (operand_value cell operand)
  side_within (Column column) = allowed column
  side_within (Literal value) = literal_within value

  among_law : (a : StatsAt) (value : Value) → IsWithin a value → (items : List (Operand ℕ)) →
      has (can_be_among stats a items) (any_equal cell value items) ≡ true
  among_law a value h [] = has_only False
  among_law a value h (item ∷ items) =
      has_both truth_or (can_compare Equal a (side_of stats item)) (can_be_among stats a items) (compared Equal value (operand_value cell item)) (any_equal cell value items)
      (compare_law Equal a (side_of stats item) value (operand_value cell item) h (side_within item)) (among_law a value h items)

  within_law : (operand low high : Operand ℕ) →
      has (can_be_within (side_of stats operand) (side_of stats low) (side_of stats high))
      (within (operand_value cell operand) (operand_value cell low) (operand_value cell high)) ≡ true
  within_law operand low high =
      let a = side_of stats operand in
      let v = operand_value cell operand in
      has_both truth_and (can_compare GreaterOrEqual a (side_of stats low)) (can_compare LessOrEqual a (side_of stats high))
      (compared GreaterOrEqual v (operand_value cell low)) (compared LessOrEqual v (operand_value cell high))
      (compare_law GreaterOrEqual a (side_of stats low) v (operand_value cell low) (side_within operand) (side_within low))
      (compare_law LessOrEqual a (side_of stats high) v (operand_value cell high) (side_within operand) (side_within high))

  pub possible : (predicate : Pred ℕ) → has (can stats predicate) (truth_of cell predicate) ≡ true
  possible (conjunction p q) = has_both truth_and (can stats p) (can stats q) (truth_of cell p) (truth_of cell q) (possible p) (possible q)
  possible (disjunction p q) = has_both truth_or (can stats p) (can stats q) (truth_of cell p) (truth_of cell q) (possible p) (possible q)
  possible (negation p) = has_over truth_not (can stats p) (truth_of cell p) (possible p)
  possible (truth_test negated tested p) =
      has_over (negated_if negated) (over (λ x. truth_is x tested) (can stats p)) (truth_is (truth_of cell p) tested)
      (has_over (λ x. truth_is x tested) (can stats p) (truth_of cell p) (possible p))
  possible (comparing comparison a b) =
      compare_law comparison (side_of stats a) (side_of stats b) (operand_value cell a) (operand_value cell b) (side_within a) (side_within b)
  possible (between negated a low high) =
      has_over (negated_if negated) (can_be_within (side_of stats a) (side_of stats low) (side_of stats high))
      (within (operand_value cell a) (operand_value cell low) (operand_value cell high)) (within_law a low high)
  possible (membership negated a items) =
      has_over (negated_if negated) (can_be_among stats (side_of stats a) items) (any_equal cell (operand_value cell a) items)
      (among_law (side_of stats a) (operand_value cell a) (side_within a) items)
  possible (null_test negated a) =
      has_over (negated_if negated) (can_be_null (side_of stats a)) (nullness (operand_value cell a)) (null_law (side_of stats a) (operand_value cell a) (side_within a))
  possible (constant truth) = has_only truth

pub truth_is_possible : TruthIsPossible
truth_is_possible stats cell predicate allowed = possible stats cell allowed predicate
