use Rattle.std.proofs.Common.{◌+◌, ℕ, ap, arith}
use Rattle.row_text.proofs.Rows.{rows_more}
use Rattle.row_text.proofs.table.count_rows.Goals as goal

pub loop-batch-preserved : goal.loop-batch-preserved
loop-batch-preserved c = record {
  all = rows_more c.args.batches.now c.loop-batch.batch-index c.loop-batch.count _ _ c.batch-item.result c.loop-batch-test.true c.batch-item.is
      (ap (λ (n : ℕ). c.loop-batch.count + n) c.rows.ensures) c.loop-batch.invariant.all;
  few = omega arith;
}
