-- A predicate in which other operands stand for what it names has its truth over what these are.
use Rattle.std.proofs.Common.{◌≡◌, List, [], ◌∷◌, map, refl, ap, ◌∙◌}
use Rattle.scan_base.specs.declared.comparison.Comparison.TheVariants.{Equal}
use Rattle.scan_base.specs.declared.predicate.Operand.{Operand}
use Rattle.scan_base.specs.declared.predicate.Operand.TheVariants as operand
use Rattle.scan_base.specs.declared.value.Value.{Value}
use Rattle.scan_base.specs.Comparison.{compared, nullness}
use Rattle.scan_base.specs.Predicate.{Pred, conjunction, disjunction, negation, truth_test, comparing, between}
use Rattle.scan_base.specs.Predicate.{membership, null_test, constant, truth_of, operand_value, any_equal}
use Rattle.scan_base.specs.Truth.{truth_or, truth_not, truth_is, negated_if}
use Rattle.typed_plan.specs.NumberedPredicates.{operand_bind, predicate_bind, predicate_map}

module _ {C D : Type 0} (cell : D → Value) (f : C → Operand D) where
  -- the value of what stands for a name
  abbrev stands : C → Value
  stands c = operand_value cell (f c)

  operand_value-bind : (o : Operand C) → operand_value cell (operand_bind f o) ≡ operand_value stands o
  operand_value-bind (operand.Column column) = refl
  operand_value-bind (operand.Literal value) = refl

  any_equal-bind : (value : Value) (items : List (Operand C)) →
      any_equal cell value (map (operand_bind f) items) ≡ any_equal stands value items
  any_equal-bind value [] = refl
  any_equal-bind value (item ∷ items) =
      ap (λ other. truth_or (compared Equal value other) (any_equal cell value (map (operand_bind f) items)))
      (operand_value-bind item)
      ∙ ap (truth_or (compared Equal value (operand_value stands item))) (any_equal-bind value items)

  pub truth_of-bind : (p : Pred C) → truth_of cell (predicate_bind f p) ≡ truth_of stands p
  truth_of-bind (conjunction p q) = let a = truth_of-bind p in let b = truth_of-bind q in cc
  truth_of-bind (disjunction p q) = let a = truth_of-bind p in let b = truth_of-bind q in cc
  truth_of-bind (negation p) = ap truth_not (truth_of-bind p)
  truth_of-bind (truth_test negated tested p) =
      ap (λ truth. negated_if negated (truth_is truth tested)) (truth_of-bind p)
  truth_of-bind (comparing comparison left right) =
      let a = operand_value-bind left in let b = operand_value-bind right in cc
  truth_of-bind (between negated o low high) =
      let a = operand_value-bind o in let b = operand_value-bind low in let c = operand_value-bind high in cc
  truth_of-bind (membership negated o items) =
      ap (λ value. negated_if negated (any_equal cell value (map (operand_bind f) items))) (operand_value-bind o)
      ∙ ap (negated_if negated) (any_equal-bind (operand_value stands o) items)
  truth_of-bind (null_test negated o) = ap (λ value. negated_if negated (nullness value)) (operand_value-bind o)
  truth_of-bind (constant truth) = refl

-- a predicate with other names of its columns has the truth over what these stand for
pub truth_of-map : {C D : Type 0} (cell : D → Value) (f : C → D) (p : Pred C) →
    truth_of cell (predicate_map f p) ≡ truth_of (λ c. cell (f c)) p
truth_of-map cell f p = truth_of-bind cell (λ c. operand.Column (f c)) p
