use Rattle.std.proofs.Common.{arith}
use Rattle.table_versions.proofs.Rowing.{rows-until}
use Rattle.table_versions.proofs.put.Put.rows.Goals as goal

pub loop-batch-preserved : goal.loop-batch-preserved
loop-batch-preserved c =
    let batches = c.self.inside.batches.items in
    let more = rows-until batches c.batch-item.result c.loop-batch.batch-index (rw (← c.as_slice-batch-items.ensures.value) c.loop-batch-test.true) (rw (← c.as_slice-batch-items.ensures.value) c.batch-item.is) in
    let so_far = rw (← c.self.view_is) at c.loop-batch.invariant in
    rw (← c.self.view_is) (omega (arith, so_far, more, c.rows.ensures, c.saturating_add-rows.ensures))
