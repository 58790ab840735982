-- A predicate in which other operands stand for what it names, or other names.
use Rattle.std.specs.Prelude.{map}
use Rattle.scan_base.specs.declared.predicate.Operand.{Operand}
use Rattle.scan_base.specs.declared.predicate.Operand.TheVariants.{Column, Literal}
use Rattle.scan_base.specs.Predicate.{Pred, conjunction, disjunction, negation, truth_test}
use Rattle.scan_base.specs.Predicate.{comparing, between}
use Rattle.scan_base.specs.Predicate.{membership, null_test, constant}

-- an operand, where another one stands for what it names
abbrev pub operand_bind : {C D : Type 0} → (C → Operand D) → Operand C → Operand D
operand_bind f (Column column) = f column
operand_bind f (Literal value) = Literal value

-- a predicate, where other operands stand for what it names
abbrev pub predicate_bind : {C D : Type 0} → (C → Operand D) → Pred C → Pred D
predicate_bind f (conjunction p q) = conjunction (predicate_bind f p) (predicate_bind f q)
predicate_bind f (disjunction p q) = disjunction (predicate_bind f p) (predicate_bind f q)
predicate_bind f (negation p) = negation (predicate_bind f p)
predicate_bind f (truth_test negated tested p) = truth_test negated tested (predicate_bind f p)
predicate_bind f (comparing comparison left right) =
    comparing comparison (operand_bind f left) (operand_bind f right)
predicate_bind f (between negated operand low high) =
    between negated (operand_bind f operand) (operand_bind f low) (operand_bind f high)
predicate_bind f (membership negated operand items) =
    membership negated (operand_bind f operand) (map (operand_bind f) items)
predicate_bind f (null_test negated operand) = null_test negated (operand_bind f operand)
predicate_bind f (constant truth) = constant truth

-- an operand with another name of its column
abbrev pub operand_map : {C D : Type 0} → (C → D) → Operand C → Operand D
operand_map f = operand_bind (λ column. Column (f column))

-- a predicate whose operands have other names of their columns
abbrev pub predicate_map : {C D : Type 0} → (C → D) → Pred C → Pred D
predicate_map f = predicate_bind (λ column. Column (f column))
