use Rattle.std.proofs.Common.{◌∙◌}
use Rattle.std.proofs.lemmas.Result.{err_from_is_err_and}
use Rattle.row_text.proofs.Numbered.{numbered, start_not_sent, none_sent, first_sent, first_not_sent, between_not_sent, cell_sent, cell_not_sent, end_sent}
use Rattle.row_text.proofs.walk.send_names.Goals as goal

pub returns-in_err-send_start-clause-bytes : goal.returns-in_err-send_start-clause-bytes
returns-in_err-send_start-clause-bytes g c =
    let p = err_from_is_err_and c.from_residual.result c.from_residual.ensures.1 in
    let format = g.F.RowFormat.format c.args.format.now in
    rw p.1 (start_not_sent format (numbered format.name 0 c.args.fields.now) _ _ _ _ (rw c.start.ensures at c.in_err-send_start.ensures.bytes))

pub returns-in_default-clause-bytes : goal.returns-in_default-clause-bytes
returns-in_default-clause-bytes g c =
    let format = g.F.RowFormat.format c.args.format.now in
    none_sent format format.name c.args.fields.now _ _ _ _ _ _ _ c.in_default.len_below
    (rw c.start.ensures at c.in_ok-send_start.ensures.bytes) (rw c.end.ensures at c.send_part.ensures.bytes)

pub returns-in_err-send_name-clause-bytes : goal.returns-in_err-send_name-clause-bytes
returns-in_err-send_name-clause-bytes g c =
    let p = err_from_is_err_and c.from_residual-in_err-send_name.result c.from_residual-in_err-send_name.ensures.1 in
    let format = g.F.RowFormat.format c.args.format.now in
    rw p.1
    (first_not_sent format format.name c.args.fields.now c.first-item.result c.in-len1-up.len_at_least c.first-item.is _ _ _ _ _ _
    (rw c.start.ensures at c.in_ok-send_start.ensures.bytes) c.in_err-send_name.ensures.bytes)

pub loop-index-init : goal.loop-index-init
loop-index-init g c =
    let format = g.F.RowFormat.format c.args.format.now in
    record {
      sent = first_sent format format.name c.args.fields.now c.first-item.result c.in-len1-up.len_at_least c.first-item.is _ _ _ _ _ _
          (rw c.start.ensures at c.in_ok-send_start.ensures.bytes) c.in_ok-send_name.ensures.bytes;
      count = c.in_ok-send_name.ensures.counted ∙ c.in_ok-send_start.ensures.counted;
    }

pub returns-in_err-send_part-clause-bytes : goal.returns-in_err-send_part-clause-bytes
returns-in_err-send_part-clause-bytes g c =
    let p = err_from_is_err_and c.from_residual-in_err-send_part.result c.from_residual-in_err-send_part.ensures.1 in
    let format = g.F.RowFormat.format c.args.format.now in
    rw p.1
    (between_not_sent format format.name c.args.fields.now c.loop-index.index c.index-others-index.result c.loop-index-test.true c.index-others-index.is _ _ _ _
    c.loop-index.invariant.sent _ _ (rw c.between.ensures at c.in_err-send_part.ensures.bytes))

pub returns-in_err-send_name-2-clause-bytes : goal.returns-in_err-send_name-2-clause-bytes
returns-in_err-send_name-2-clause-bytes g c =
    let p = err_from_is_err_and c.from_residual-in_err-send_name-2.result c.from_residual-in_err-send_name-2.ensures.1 in
    let format = g.F.RowFormat.format c.args.format.now in
    rw p.1
    (cell_not_sent format format.name c.args.fields.now c.loop-index.index c.index-others-index.result c.loop-index-test.true c.index-others-index.is _ _ _ _
    c.loop-index.invariant.sent _ _ _ _ (rw c.between.ensures at c.in_ok-send_part.ensures.bytes) c.in_err-send_name-2.ensures.bytes)

pub loop-index-preserved : goal.loop-index-preserved
loop-index-preserved g c =
    let format = g.F.RowFormat.format c.args.format.now in
    record {
      sent = cell_sent format format.name c.args.fields.now c.loop-index.index c.index-others-index.result c.loop-index-test.true c.index-others-index.is _ _ _ _
          c.loop-index.invariant.sent _ _ _ _ (rw c.between.ensures at c.in_ok-send_part.ensures.bytes) c.in_ok-send_name-2.ensures.bytes;
      count = c.in_ok-send_name-2.ensures.counted ∙ c.in_ok-send_part.ensures.counted ∙ c.loop-index.invariant.count;
    }

pub returns-clause-bytes : goal.returns-clause-bytes
returns-clause-bytes g c =
    let format = g.F.RowFormat.format c.args.format.now in
    end_sent format format.name c.args.fields.now _ _ _ _ _ _ _ c.loop-index.index c.in-len1-up.len_at_least c.loop-index-test.false
    c.loop-index.invariant.sent (rw c.end-2.ensures at c.send_part-2.ensures.bytes)
