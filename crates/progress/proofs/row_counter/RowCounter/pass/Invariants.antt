use Rattle.std.proofs.Common.{length}
use Rattle.progress.proofs.row_counter.RowCounter.pass.Given as goal

abbrev pub decreases-loop-left : goal.decreases-loop-left
decreases-loop-left l = length l.left
