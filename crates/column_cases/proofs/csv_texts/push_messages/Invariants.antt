use Rattle.std.proofs.Common.{length}
use Rattle.column_cases.proofs.csv_texts.push_messages.Given as goal

abbrev pub decreases-loop-left : goal.decreases-loop-left
decreases-loop-left l = length l.left.records
