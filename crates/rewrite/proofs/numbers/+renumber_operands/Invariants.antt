use Rattle.std.proofs.Common.{length}
use Rattle.rewrite.proofs.numbers.+renumber_operands.Given as goal

abbrev pub decreases-renumber_operands : goal.decreases-renumber_operands
decreases-renumber_operands g l = length l.operands.now
