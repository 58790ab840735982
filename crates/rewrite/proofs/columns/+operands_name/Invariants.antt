use Rattle.std.proofs.Common.{length}
use Rattle.rewrite.proofs.columns.+operands_name.Given as goal

abbrev pub decreases-operands_name : goal.decreases-operands_name
decreases-operands_name g l = length l.operands.now
