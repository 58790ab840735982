use Rattle.std.proofs.Common.{◌≡◌, ◌+◌, suc, List, subst, sym, take, arith}
use Rattle.batch_stats.specs.declared.stats.Stats.{Stats}
use Rattle.batch_stats.specs.HeldStats.{IsStatsOf}
use Rattle.batch_stats.specs.inside.MeasuredBatch.{AreStatsOf}
use Rattle.batch_stats.proofs.Zipped.{zip_more}
use Rattle.batch_stats.proofs.measured_batch.stats_of_each.Goals as goal

pub loop-column-preserved : goal.loop-column-preserved
loop-column-preserved c =
    let columns = c.args.columns.now in
    let index = c.loop-column.column-index in
    let more = zip_more IsStatsOf columns c.loop-column.stats.items index c.column-item.result c.of.result c.loop-column.invariant c.loop-column-test.true c.column-item.is c.of.ensures in
    let next : index + 1 ≡ suc index = omega arith in
    subst (λ (items : List Stats). AreStatsOf (take (index + 1) columns) items) (sym c.in_ok-push.ensures.items) (rw next more)
