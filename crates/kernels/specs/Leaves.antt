-- Inside: leaves of predicates.
use Rattle.std.specs.Prelude.{◌≡◌, ℕ, Bool, true, false}
use Rattle.scan_base.specs.declared.predicate.Operand.{Operand}
use Rattle.scan_base.specs.declared.predicate.Operand.TheVariants.{Column as ColumnOperand}
use Rattle.scan_base.specs.declared.value.Value.{Value}
use Rattle.scan_base.specs.Predicate.{Pred, comparing, between, membership, operand_value}
use Rattle.scan_base.specs.Value.{value_of}
use Rattle.kernels.specs.declared.operands.OperandSide.{OperandSide}
use Rattle.kernels.specs.declared.operands.OperandSide.TheVariants.{Column, Value as ValueSide}

-- an operand is the column of this number, or has this value in each row
abbrev pub IsSideOf : Operand ℕ → OperandSide → Type 0
IsSideOf operand (Column number) = operand ≡ ColumnOperand number
IsSideOf operand (ValueSide value) =
    (cell : ℕ → Value) → operand_value cell operand ≡ value_of value

-- whether a predicate is a comparison, BETWEEN or IN
abbrev pub compares : Pred ℕ → Bool
compares (comparing comparison a b) = true
compares (between negated a low high) = true
compares (membership negated a items) = true
compares _ = false
