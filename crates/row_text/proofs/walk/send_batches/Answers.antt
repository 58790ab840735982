use Rattle.std.proofs.Common.{refl, rules, take_all}
use Rattle.std.proofs.lemmas.Result.{err_from_is_err_and}
use Rattle.row_text.proofs.Parts.{none_sent, more_sent, more_not_sent}
use Rattle.row_text.proofs.Rows.{batch_rows, all_rows}
use Rattle.row_text.proofs.walk.send_batches.Goals as goal

pub loop-batch-init : goal.loop-batch-init
loop-batch-init g c = record { sent = none_sent _ _; count = refl }

pub loop-batch-preserved : goal.loop-batch-preserved
loop-batch-preserved g c = record {
  sent = more_sent (batch_rows (g.F.RowFormat.format c.args.format.now)) _ _ _ _ _ _ c.args.batches.now c.loop-batch.batch-index c.batch-item.result c.loop-batch-test.true c.batch-item.is c.loop-batch.invariant.sent c.in_ok-send_batch.ensures.bytes;
  count = search rules;
}

pub returns-in_err-send_batch-clause-bytes : goal.returns-in_err-send_batch-clause-bytes
returns-in_err-send_batch-clause-bytes g c =
    let p = err_from_is_err_and c.from_residual.result c.from_residual.ensures.1 in
    rw (p.1, ← all_rows (g.F.RowFormat.format c.args.format.now) c.args.batches.now)
    (more_not_sent (batch_rows (g.F.RowFormat.format c.args.format.now)) _ _ _ _ _ _ c.args.batches.now c.loop-batch.batch-index c.batch-item.result c.loop-batch-test.true c.batch-item.is c.loop-batch.invariant.sent c.in_err-send_batch.ensures.bytes)

pub returns-clause-bytes : goal.returns-clause-bytes
returns-clause-bytes g c =
    rw (← all_rows (g.F.RowFormat.format c.args.format.now) c.args.batches.now) (rw (take_all c.loop-batch.batch-index c.args.batches.now (search rules)) at c.loop-batch.invariant.sent)
