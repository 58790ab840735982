use Rattle.std.proofs.Common.{◌<◌, ◌≤◌, refl, rules, take_all, arith}
use Rattle.std.proofs.lemmas.Result.{err_from_is_err_and}
use Rattle.arrays.specs.Batch.{row_of, rows_of}
use Rattle.row_text.specs.Rows.{values_row}
use Rattle.row_text.proofs.Parts.{none_sent, more_sent, more_not_sent}
use Rattle.row_text.proofs.Rows.{rows_long, row_at}
use Rattle.row_text.proofs.walk.send_batch.Goals as goal

pub loop-place-init : goal.loop-place-init
loop-place-init g c = record { sent = none_sent _ _; count = refl }

pub send_row-requires-clause-within : goal.send_row-requires-clause-within
send_row-requires-clause-within g c = λ k d inside.
    let long = c.columns-columns.ensures.long k d inside in
    let lt : c.loop-place.place < c.args.batch.now.rows = omega arith in
    omega (arith, long, lt)

pub loop-place-preserved : goal.loop-place-preserved
loop-place-preserved g c =
    let batch = c.args.batch.now in
    let place = c.loop-place.place in
    let lt : place < batch.rows = omega arith in
    record {
      sent = more_sent (values_row (g.F.RowFormat.format c.args.format.now)) _ _ _ _ _ _ (rows_of batch) place (row_of batch.columns place) (rw (rows_long batch) lt) (row_at batch place lt) c.loop-place.invariant.sent
          (rw c.columns-columns.ensures.columns at c.in_ok-send_row.ensures.bytes);
      count = search rules;
    }

pub returns-in_err-send_row-clause-bytes : goal.returns-in_err-send_row-clause-bytes
returns-in_err-send_row-clause-bytes g c =
    let p = err_from_is_err_and c.from_residual.result c.from_residual.ensures.1 in
    let batch = c.args.batch.now in
    let place = c.loop-place.place in
    let lt : place < batch.rows = omega arith in
    rw p.1
    (more_not_sent (values_row (g.F.RowFormat.format c.args.format.now)) _ _ _ _ _ _ (rows_of batch) place (row_of batch.columns place) (rw (rows_long batch) lt) (row_at batch place lt) c.loop-place.invariant.sent
    (rw c.columns-columns.ensures.columns at c.in_err-send_row.ensures.bytes))

pub returns-clause-bytes : goal.returns-clause-bytes
returns-clause-bytes g c =
    let batch = c.args.batch.now in
    let all : batch.rows ≤ c.loop-place.place = omega arith in
    rw (take_all c.loop-place.place (rows_of batch) (rw (rows_long batch) all)) at c.loop-place.invariant.sent
