use Rattle.std.proofs.Common.{length}
use Rattle.progress.proofs.record_beginning.header_of.Given as goal

abbrev pub decreases-loop-field : goal.decreases-loop-field
decreases-loop-field l = length l.fields
