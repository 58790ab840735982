use Rattle.std.proofs.Common.{◌+◌, ◌<◌, ◌∙◌, sym, subst}
use Rattle.arrays.specs.Column.{ColumnAt}
use Rattle.std.proofs.lemmas.Result.{err_from_is_err_and}
use Rattle.row_text.proofs.Rows.{column_cell, row_is}
use Rattle.row_text.proofs.Numbered.{numbered, other_inside, other_item, start_not_sent, none_sent, first_sent, first_not_sent, between_not_sent, cell_sent, cell_not_sent, end_sent}
use Rattle.row_text.proofs.walk.send_row.Goals as goal

pub returns-in_err-send_start-clause-bytes : goal.returns-in_err-send_start-clause-bytes
returns-in_err-send_start-clause-bytes g c =
    let p = err_from_is_err_and c.from_residual.result c.from_residual.ensures.1 in
    let format = g.F.RowFormat.format c.args.format.now in
    let columns = c.args.row.columns.now in
    let place = c.args.row.place in
    rw (p.1, row_is format columns place) (start_not_sent format (numbered (column_cell format columns place) 0 columns) _ _ _ _ (rw c.start.ensures at c.in_err-send_start.ensures.bytes))

pub returns-in_default-clause-bytes : goal.returns-in_default-clause-bytes
returns-in_default-clause-bytes g c =
    let format = g.F.RowFormat.format c.args.format.now in
    let columns = c.args.row.columns.now in
    let place = c.args.row.place in
    rw (row_is format columns place) (none_sent format (column_cell format columns place) columns _ _ _ _ _ _ _ c.in_default.len_below
    (rw c.start.ensures at c.in_ok-send_start.ensures.bytes) (rw c.end.ensures at c.send_part.ensures.bytes))

pub returns-in_err-send_cell-clause-bytes : goal.returns-in_err-send_cell-clause-bytes
returns-in_err-send_cell-clause-bytes g c =
    let p = err_from_is_err_and c.from_residual-in_err-send_cell.result c.from_residual-in_err-send_cell.ensures.1 in
    let format = g.F.RowFormat.format c.args.format.now in
    let columns = c.args.row.columns.now in
    let place = c.args.row.place in
    rw (p.1, row_is format columns place)
    (first_not_sent format (column_cell format columns place) columns c.first-item.result c.in-len1-up.len_at_least c.first-item.is _ _ _ _ _ _
    (rw c.start.ensures at c.in_ok-send_start.ensures.bytes) (rw c.value_at-value.ensures at c.in_err-send_cell.ensures.bytes))

pub loop-index-init : goal.loop-index-init
loop-index-init g c =
    let format = g.F.RowFormat.format c.args.format.now in
    let columns = c.args.row.columns.now in
    let place = c.args.row.place in
    record {
      sent = first_sent format (column_cell format columns place) columns c.first-item.result c.in-len1-up.len_at_least c.first-item.is _ _ _ _ _ _
          (rw c.start.ensures at c.in_ok-send_start.ensures.bytes) (rw c.value_at-value.ensures at c.in_ok-send_cell.ensures.bytes);
      count = c.in_ok-send_cell.ensures.counted ∙ c.in_ok-send_start.ensures.counted;
    }

pub returns-in_err-send_part-clause-bytes : goal.returns-in_err-send_part-clause-bytes
returns-in_err-send_part-clause-bytes g c =
    let p = err_from_is_err_and c.from_residual-in_err-send_part.result c.from_residual-in_err-send_part.ensures.1 in
    let format = g.F.RowFormat.format c.args.format.now in
    let columns = c.args.row.columns.now in
    let place = c.args.row.place in
    rw (p.1, row_is format columns place)
    (between_not_sent format (column_cell format columns place) columns c.loop-index.index c.index-others-index.result c.loop-index-test.true c.index-others-index.is _ _ _ _
    c.loop-index.invariant.sent _ _ (rw c.between.ensures at c.in_err-send_part.ensures.bytes))

pub returns-in_err-send_cell-2-clause-bytes : goal.returns-in_err-send_cell-2-clause-bytes
returns-in_err-send_cell-2-clause-bytes g c =
    let p = err_from_is_err_and c.from_residual-in_err-send_cell-2.result c.from_residual-in_err-send_cell-2.ensures.1 in
    let format = g.F.RowFormat.format c.args.format.now in
    let columns = c.args.row.columns.now in
    let place = c.args.row.place in
    rw (p.1, row_is format columns place)
    (cell_not_sent format (column_cell format columns place) columns c.loop-index.index c.index-others-index.result c.loop-index-test.true c.index-others-index.is _ _ _ _
    c.loop-index.invariant.sent _ _ _ _ (rw c.between.ensures at c.in_ok-send_part.ensures.bytes) (rw c.value_at-value-in-loop-index.ensures at c.in_err-send_cell-2.ensures.bytes))

pub loop-index-preserved : goal.loop-index-preserved
loop-index-preserved g c =
    let format = g.F.RowFormat.format c.args.format.now in
    let columns = c.args.row.columns.now in
    let place = c.args.row.place in
    record {
      sent = cell_sent format (column_cell format columns place) columns c.loop-index.index c.index-others-index.result c.loop-index-test.true c.index-others-index.is _ _ _ _
          c.loop-index.invariant.sent _ _ _ _ (rw c.between.ensures at c.in_ok-send_part.ensures.bytes) (rw c.value_at-value-in-loop-index.ensures at c.in_ok-send_cell-2.ensures.bytes);
      count = c.in_ok-send_cell-2.ensures.counted ∙ c.in_ok-send_part.ensures.counted ∙ c.loop-index.invariant.count;
    }

pub returns-clause-bytes : goal.returns-clause-bytes
returns-clause-bytes g c =
    let format = g.F.RowFormat.format c.args.format.now in
    let columns = c.args.row.columns.now in
    let place = c.args.row.place in
    rw (row_is format columns place) (end_sent format (column_cell format columns place) columns _ _ _ _ _ _ _ c.loop-index.index c.in-len1-up.len_at_least c.loop-index-test.false
    c.loop-index.invariant.sent (rw c.end-2.ensures at c.send_part-2.ensures.bytes))

pub value_at-value-requires-in-loop-index : goal.value_at-value-requires-in-loop-index
value_at-value-requires-in-loop-index g c =
    let columns = c.args.row.columns.now in
    let index = c.loop-index.index in
    let column = c.index-others-index.result in
    subst (λ (one : ColumnAt). c.args.row.place < one.len) (sym (other_item columns index column c.index-others-index.is))
    (c.requires.within (index + 1) column (other_inside columns index c.loop-index-test.true))
