use Rattle.std.proofs.Common.{◌≡◌, drop}
use Rattle.rewrite.specs.Uses.{with_operands}
use Rattle.rewrite.proofs.used_columns.mark_operands.Given as goal

-- what is marked, and then what is still to be marked
abbrev pub invariant-loop-operand : goal.invariant-loop-operand
invariant-loop-operand l = with_operands (drop l.operand-index l.operands) l.uses ≡ with_operands l.operands l.fn.uses
