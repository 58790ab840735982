use Rattle.std.proofs.Common.{take}
use Rattle.batch_stats.specs.inside.MeasuredBatch.{AreStatsOf}
use Rattle.batch_stats.proofs.measured_batch.stats_of_each.Given as goal

abbrev pub invariant-loop-column : goal.invariant-loop-column
invariant-loop-column l = AreStatsOf (take l.column-index l.columns) l.stats.items
