-- A plan stays well typed where its tree is another one of the same types.
use Rattle.std.proofs.Common.{◌≡◌, ◌<◌, ◌≤◌, ℕ, zero, suc, ◌-◌, Bool, true, not, ◌&&◌, List, [], ◌∷◌, ◌++◌, length, map, nat_lt, slice_get, None, Result, refl, sym, ap, ◌∙◌, subst, arith}
use Rattle.std.specs.List.{list_all}
use Rattle.std.proofs.lemmas.Bool.{and_parts, ltb-true, ltb-false, not-true}
use Rattle.arrow_types.specs.declared.data_type.DataType.{DataType}
use Rattle.arrow_types.specs.declared.schema.Schema.{Schema}
use Rattle.scan_base.specs.declared.fault.Fault.{Fault}
use Rattle.scan_base.specs.declared.predicate.Operand.{Operand}
use Rattle.scan_base.specs.declared.predicate.Operand.TheVariants as operand
use Rattle.scan_base.specs.Predicate.{Pred, conjunction, disjunction, negation, truth_test, comparing, between, membership, null_test, constant, operand_names, names_only}
use Rattle.typed_plan.proofs.ClassFollows.{predicate_follows}
use Rattle.typed_plan.specs.declared.class.Class.{Class}
use Rattle.typed_plan.specs.declared.plan.Output.{Output}
use Rattle.typed_plan.specs.Faults.{fault_in, operand_class, items_fault, predicate_fault}
use Rattle.typed_plan.specs.NumberedPredicates.{predicate_map}
use Rattle.arrow_types.specs.Answer.{answered_from}
use Rattle.typed_plan.specs.Plan.{Tree, PlanAt}
use Rattle.typed_plan.specs.TypedPlans.{class_if_there, class_of_number, tree_types, is_place, IsTypedTree, IsTyped, HasOutput, output_types}

-- ---- predicates whose columns have the same classes

module _ {C : Type 0} (test : C → Bool) (f g : C → Result Class Fault) (same : (c : C) → test c ≡ true → f c ≡ g c) where
  class_agrees : (o : Operand C) → operand_names test o ≡ true → operand_class f o ≡ operand_class g o
  class_agrees (operand.Column column) h = same column h
  class_agrees (operand.Literal value) h = refl

  items_fault_agrees : (a b : Result Class Fault) → a ≡ b → (items : List (Operand C)) → list_all (operand_names test) items ≡ true →
      items_fault f a items ≡ items_fault g b items
  items_fault_agrees a b e [] h = refl
  items_fault_agrees a b e (item ∷ items) h =
      let parts = and_parts (operand_names test item) (list_all (operand_names test) items) h in
      let here = class_agrees item parts.0 in
      let there = items_fault_agrees a b e items parts.1 in
      cc

  -- a predicate that names those alone has the same fault
  pub fault_agrees : (p : Pred C) → names_only test p ≡ true → predicate_fault f p ≡ predicate_fault g p
  fault_agrees (conjunction p q) h =
      let parts = and_parts (names_only test p) (names_only test q) h in
      let here = fault_agrees p parts.0 in
      let there = fault_agrees q parts.1 in
      cc
  fault_agrees (disjunction p q) h =
      let parts = and_parts (names_only test p) (names_only test q) h in
      let here = fault_agrees p parts.0 in
      let there = fault_agrees q parts.1 in
      cc
  fault_agrees (negation p) h = fault_agrees p h
  fault_agrees (truth_test negated tested p) h = fault_agrees p h
  fault_agrees (comparing comparison a b) h =
      let parts = and_parts (operand_names test a) (operand_names test b) h in
      let here = class_agrees a parts.0 in
      let there = class_agrees b parts.1 in
      cc
  fault_agrees (between negated o low high) h =
      let parts = and_parts (operand_names test o) (operand_names test low && operand_names test high) h in
      let more = and_parts (operand_names test low) (operand_names test high) parts.1 in
      let a = class_agrees o parts.0 in
      let b = class_agrees low more.0 in
      let c = class_agrees high more.1 in
      cc
  fault_agrees (membership negated o items) h =
      let parts = and_parts (operand_names test o) (list_all (operand_names test) items) h in
      let a = class_agrees o parts.0 in
      let b = items_fault_agrees (operand_class f o) (operand_class g o) a items parts.1 in
      cc
  fault_agrees (null_test negated o) h = ap fault_in (class_agrees o h)
  fault_agrees (constant truth) h = refl

-- ---- columns of joined rows

type_of_left : (ls rs : List DataType) (n : ℕ) → n < length ls → slice_get (ls ++ rs) n ≡ slice_get ls n
type_of_left [] rs n low = absurd (omega (arith, low))
type_of_left (l ∷ ls) rs zero low = refl
type_of_left (l ∷ ls) rs (suc n) low = type_of_left ls rs n (omega (arith, low))

type_of_right : (ls rs : List DataType) (n : ℕ) → length ls ≤ n → slice_get (ls ++ rs) n ≡ slice_get rs (n - length ls)
type_of_right [] rs n le = let e : n - 0 ≡ n = omega arith in rw e refl
type_of_right (l ∷ ls) rs zero le = absurd (omega arith)
type_of_right (l ∷ ls) rs (suc n) le = let e : suc n - suc (length ls) ≡ n - length ls = omega arith in rw e (type_of_right ls rs n (omega arith))

module _ (ls rs : List DataType) where
  pub fault_of_left : (p : Pred ℕ) → names_only (λ c. nat_lt c (length ls)) p ≡ true →
      predicate_fault (class_of_number (ls ++ rs)) p ≡ None → predicate_fault (class_of_number ls) p ≡ None
  fault_of_left p h e =
      sym (fault_agrees (λ c. nat_lt c (length ls)) (class_of_number (ls ++ rs)) (class_of_number ls)
      (λ c lt. ap class_if_there (type_of_left ls rs c (ltb-true c (length ls) lt))) p h) ∙ e

  pub fault_of_right : (p : Pred ℕ) → names_only (λ c. not (nat_lt c (length ls))) p ≡ true →
      predicate_fault (class_of_number (ls ++ rs)) p ≡ None →
      predicate_fault (class_of_number rs) (predicate_map (λ c. c - length ls) p) ≡ None
  fault_of_right p h e =
      predicate_follows (λ c. class_of_number rs (c - length ls)) (class_of_number rs) (λ c. c - length ls) (λ c class s. s) p
      (sym (fault_agrees (λ c. not (nat_lt c (length ls))) (class_of_number (ls ++ rs)) (λ c. class_of_number rs (c - length ls))
      (λ c ge. ap class_if_there (type_of_right ls rs c (ltb-false c (length ls) (not-true (nat_lt c (length ls)) ge)))) p h) ∙ e)

-- ---- plans

pub typed_again : (new old : Tree) (output : Output) (schema : Schema) → IsTypedTree new → tree_types new ≡ tree_types old → is_place new ≡ is_place old →
    IsTyped (record { tree = old; output = output; schema = schema }) → IsTyped (record { tree = new; output = output; schema = schema })
typed_again new old output schema typed types place was = record {
  tree = typed;
  output = subst (λ some. HasOutput output some) (sym types) was.output;
  types = was.types ∙ ap (λ some. answered_from 0 (output_types output some)) (sym types);
  alone = λ grouping. place ∙ was.alone grouping;
}

-- the same, said of other values that are equal
pub typed_as : (tree same_tree : Tree) (output same_output : Output) (schema same_schema : Schema) → tree ≡ same_tree → output ≡ same_output → schema ≡ same_schema →
    IsTyped (record { tree = same_tree; output = same_output; schema = same_schema }) → IsTyped (record { tree = tree; output = output; schema = schema })
typed_as tree same_tree output same_output schema same_schema e f g was =
    let one : PlanAt → PlanAt → Type 0 = λ a b. a ≡ b in
    let equal : one (record { tree = same_tree; output = same_output; schema = same_schema }) (record { tree = tree; output = output; schema = schema }) =
    ap (λ (t : Tree). record { tree = t; output = same_output; schema = same_schema }) (sym e)
    ∙ ap (λ (o : Output). record { tree = tree; output = o; schema = same_schema }) (sym f)
    ∙ ap (λ (s : Schema). record { tree = tree; output = output; schema = s }) (sym g) in
    subst IsTyped equal was
