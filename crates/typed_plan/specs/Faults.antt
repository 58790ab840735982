-- The first fault of several, and the faults of a predicate.
use Rattle.std.specs.Prelude.{Bool, true, false, List, [], ◌∷◌, Option, Some, None, Result, Ok, Err}
use Rattle.scan_base.specs.declared.fault.Fault.{Fault}
use Rattle.scan_base.specs.declared.fault.Fault.TheVariants.{TypeClash}
use Rattle.scan_base.specs.declared.predicate.Operand.{Operand}
use Rattle.scan_base.specs.declared.predicate.Operand.TheVariants.{Column, Literal}
use Rattle.scan_base.specs.Predicate.{Pred, conjunction, disjunction, negation, truth_test}
use Rattle.scan_base.specs.Predicate.{comparing, between}
use Rattle.scan_base.specs.Predicate.{membership, null_test, constant}
use Rattle.typed_plan.specs.declared.class.Class.{Class}
use Rattle.typed_plan.specs.Class.{same_class, value_class}

infixr 5 ◌then◌
-- the first fault of the one check, then of the other
abbrev pub ◌then◌ : Option Fault → Option Fault → Option Fault
(Some fault) then rest = Some fault
None then rest = rest

-- the fault, where the test fails
abbrev pub must : Bool → Fault → Option Fault
must true fault = None
must false fault = Some fault

-- the fault of what was looked up, else what the check of it says
abbrev pub found : {A : Type 0} → Result A Fault → (A → Option Fault) → Option Fault
found (Ok x) check = check x
found (Err fault) check = Some fault

-- the first fault of these, in their order
abbrev pub first_in : {A : Type 0} → (A → Option Fault) → List A → Option Fault
first_in check [] = None
first_in check (x ∷ xs) = check x then first_in check xs

-- the fault of what was looked up
abbrev pub fault_in : {A : Type 0} → Result A Fault → Option Fault
fault_in result = found result (λ _. None)

-- the class of an operand, where `class_of` says that of what a C names
abbrev pub operand_class : {C : Type 0} → (C → Result Class Fault) → Operand C → Result Class Fault
operand_class class_of (Column column) = class_of column
operand_class class_of (Literal value) = Ok (value_class value)

-- the left name, the right name, then whether the classes agree
abbrev pub compare_fault : Result Class Fault → Result Class Fault → Option Fault
compare_fault left right = found left (λ a. found right (λ b. must (same_class a b) TypeClash))

-- each item's name, and whether its class agrees
abbrev pub items_fault : {C : Type 0} → (C → Result Class Fault) → Result Class Fault →
    List (Operand C) → Option Fault
items_fault class_of class items =
    first_in (λ item. compare_fault class (operand_class class_of item)) items

-- a predicate from the left, where `class_of` says the class of what a C names
abbrev pub predicate_fault : {C : Type 0} → (C → Result Class Fault) → Pred C → Option Fault
predicate_fault class_of (conjunction p q) =
    predicate_fault class_of p then predicate_fault class_of q
predicate_fault class_of (disjunction p q) =
    predicate_fault class_of p then predicate_fault class_of q
predicate_fault class_of (negation p) = predicate_fault class_of p
predicate_fault class_of (truth_test negated tested p) = predicate_fault class_of p
predicate_fault class_of (comparing comparison left right) =
    compare_fault (operand_class class_of left) (operand_class class_of right)
predicate_fault class_of (between negated operand low high) =
    fault_in (operand_class class_of operand)
    then items_fault class_of (operand_class class_of operand) (low ∷ high ∷ [])
predicate_fault class_of (membership negated operand items) =
    fault_in (operand_class class_of operand)
    then items_fault class_of (operand_class class_of operand) items
predicate_fault class_of (null_test negated operand) = fault_in (operand_class class_of operand)
predicate_fault class_of (constant truth) = None
