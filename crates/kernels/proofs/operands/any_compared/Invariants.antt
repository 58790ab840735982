use Rattle.std.proofs.Common.{◌≡◌}
use Rattle.kernels.proofs.Lists.{any_said}
use Rattle.kernels.proofs.operands.any_compared.Given as goal

-- what the items from this one on say
abbrev pub invariant-loop-index : goal.invariant-loop-index
invariant-loop-index l = l.mask ≡ any_said l.rows l.operand l.items l.index
