-- A predicate that is well typed names columns that are there.
use Rattle.std.proofs.Common.{◌≡◌, ℕ, Bool, true, ◌&&◌, List, [], ◌∷◌, length, nat_lt, slice_get, Option, Some, None}
use Rattle.std.proofs.Common.{Result, Ok, Err, refl}
use Rattle.std.specs.List.{list_all}
use Rattle.std.proofs.lemmas.Bool.{lt-ltb, and_from}
use Rattle.std.proofs.lemmas.Option.{slice_get_within}
use Rattle.arrow_types.specs.declared.data_type.DataType.{DataType}
use Rattle.scan_base.specs.declared.fault.Fault.{Fault}
use Rattle.scan_base.specs.declared.predicate.Operand.{Operand}
use Rattle.scan_base.specs.declared.predicate.Operand.TheVariants.{Column, Literal}
use Rattle.scan_base.specs.Predicate.{conjunction, disjunction, negation, truth_test, comparing, between, membership}
use Rattle.scan_base.specs.Predicate.{null_test, constant, operand_names, names_only}
use Rattle.typed_plan.specs.declared.class.Class.{Class}
use Rattle.typed_plan.specs.Faults.{◌then◌, fault_in, operand_class, compare_fault, items_fault, predicate_fault}
use Rattle.typed_plan.specs.declared.plan.JoinKey.{JoinKey}
use Rattle.typed_plan.specs.TypedPlans.{class_if_there, class_of_number, key_class_if_there, key_class, key_fault}
use Rattle.typed_plan.specs.TypedPlans.{TypedPredicatesNameColumns}

pub then_none : (a b : Option Fault) → (a then b) ≡ None → (a ≡ None) × (b ≡ None)
then_none None b e = (refl, e)
then_none (Some fault) b e = cc

-- whether there are so many columns
abbrev is_there : List DataType → ℕ → Bool
is_there types column = nat_lt column (length types)

compare_parts : (a b : Result Class Fault) → compare_fault a b ≡ None → (fault_in a ≡ None) × (fault_in b ≡ None)
compare_parts (Ok a) (Ok b) e = (refl, refl)
compare_parts (Ok a) (Err fault) e = cc
compare_parts (Err fault) b e = cc

-- a key's cell is there
cell_there : (types : List DataType) (column : ℕ) → fault_in (key_class types column) ≡ None →
    is_there types column ≡ true
cell_there types column e = of_type (slice_get types column) refl e
  where
    of_type : (there : Option DataType) → slice_get types column ≡ there → fault_in (key_class_if_there there) ≡ None →
        is_there types column ≡ true
    of_type None is f = cc
    of_type (Some data_type) is f = lt-ltb column (length types) (slice_get_within types column data_type is)

pub key_there : (types : List DataType) (key : JoinKey) → key_fault types key ≡ None →
    (nat_lt key.left (length types) ≡ true) × (nat_lt key.right (length types) ≡ true)
key_there types key e =
    let parts = compare_parts (key_class types key.left) (key_class types key.right) e in
    (cell_there types key.left parts.0, cell_there types key.right parts.1)

operand_there : (types : List DataType) (o : Operand ℕ) → fault_in (operand_class (class_of_number types) o) ≡ None →
    operand_names (is_there types) o ≡ true
operand_there types (Literal value) e = refl
operand_there types (Column column) e = of_type (slice_get types column) refl e
  where
    of_type : (there : Option DataType) → slice_get types column ≡ there → fault_in (class_if_there there) ≡ None →
        is_there types column ≡ true
    of_type None is f = cc
    of_type (Some data_type) is f = lt-ltb column (length types) (slice_get_within types column data_type is)

items_there : (types : List DataType) (class : Result Class Fault) (items : List (Operand ℕ)) →
    items_fault (class_of_number types) class items ≡ None →
    list_all (operand_names (is_there types)) items ≡ true
items_there types class [] e = refl
items_there types class (item ∷ items) e =
    let f = class_of_number types in
    let parts = then_none (compare_fault class (operand_class f item)) (items_fault f class items) e in
    and_from (operand_names (is_there types) item) (list_all (operand_names (is_there types)) items)
    (operand_there types item (compare_parts class (operand_class f item) parts.0).1)
    (items_there types class items parts.1)

pub names_there : TypedPredicatesNameColumns
names_there types (conjunction p q) e =
    let parts = then_none (predicate_fault (class_of_number types) p) (predicate_fault (class_of_number types) q) e in
    and_from (names_only (is_there types) p) (names_only (is_there types) q) (names_there types p parts.0)
    (names_there types q parts.1)
names_there types (disjunction p q) e =
    let parts = then_none (predicate_fault (class_of_number types) p) (predicate_fault (class_of_number types) q) e in
    and_from (names_only (is_there types) p) (names_only (is_there types) q) (names_there types p parts.0)
    (names_there types q parts.1)
names_there types (negation p) e = names_there types p e
names_there types (truth_test negated tested p) e = names_there types p e
names_there types (comparing comparison left right) e =
    let f = class_of_number types in
    let parts = compare_parts (operand_class f left) (operand_class f right) e in
    and_from (operand_names (is_there types) left) (operand_names (is_there types) right)
    (operand_there types left parts.0) (operand_there types right parts.1)
names_there types (between negated o low high) e =
    let f = class_of_number types in
    let parts = then_none (fault_in (operand_class f o)) (items_fault f (operand_class f o) (low ∷ high ∷ [])) e in
    let low_part = then_none (compare_fault (operand_class f o) (operand_class f low))
    (items_fault f (operand_class f o) (high ∷ [])) parts.1 in
    let high_part = then_none (compare_fault (operand_class f o) (operand_class f high)) None low_part.1 in
    and_from (operand_names (is_there types) o)
    (operand_names (is_there types) low && operand_names (is_there types) high) (operand_there types o parts.0)
    (and_from (operand_names (is_there types) low) (operand_names (is_there types) high)
    (operand_there types low (compare_parts (operand_class f o) (operand_class f low) low_part.0).1)
    (operand_there types high (compare_parts (operand_class f o) (operand_class f high) high_part.0).1))
names_there types (membership negated o items) e =
    let f = class_of_number types in
    let parts = then_none (fault_in (operand_class f o)) (items_fault f (operand_class f o) items) e in
    and_from (operand_names (is_there types) o) (list_all (operand_names (is_there types)) items)
    (operand_there types o parts.0) (items_there types (operand_class f o) items parts.1)
names_there types (null_test negated o) e = operand_there types o e
names_there types (constant truth) e = refl
