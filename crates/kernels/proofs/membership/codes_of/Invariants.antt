use Rattle.kernels.proofs.AmongCodes.{HasCodes}
use Rattle.kernels.proofs.membership.codes_of.Given as goal

abbrev pub invariant-loop-item : goal.invariant-loop-item
invariant-loop-item l = HasCodes l.integer l.items l.item-index l.codes.items
