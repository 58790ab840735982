use Rattle.std.proofs.Common.{◌++◌}
use Rattle.std.proofs.lemmas.Result.{err_from_is_err_and}
use Rattle.scan_base.specs.Value.{value_of}
use Rattle.grpc_frame.proofs.Sending.{head_not_sent, second_not_sent, sent_behind}
use Rattle.row_text.specs.Rows.{value_text}
use Rattle.row_text.specs.TableCells.{before, behind, table_notation, value_width}
use Rattle.row_text.specs.Tables.{shape_of}
use Rattle.row_text.proofs.table_format.TableFormatRowFormat.send_cell.Goals as goal

pub returns-in_err-send_part-clause-bytes : goal.returns-in_err-send_part-clause-bytes
returns-in_err-send_part-clause-bytes g c =
    let p = err_from_is_err_and c.from_residual.result c.from_residual.ensures.1 in
    let value = value_of c.args.cell.value in
    let shape = shape_of c.args.self.now.fields.now c.args.self.now.widths.now c.args.cell.number in
    let taken = value_width shape.data_type value in
    rw p.1
    (head_not_sent _ _ _ _ (before shape taken) (value_text table_notation shape.data_type value ++ behind shape taken)
    (rw (c.before-2.ensures, c.value_width-taken.ensures, c.shape-shape.ensures) at c.in_err-send_part.ensures.bytes))

pub returns-in_err-send_value-clause-bytes : goal.returns-in_err-send_value-clause-bytes
returns-in_err-send_value-clause-bytes g c =
    let p = err_from_is_err_and c.from_residual-in_err-send_value.result c.from_residual-in_err-send_value.ensures.1 in
    let value = value_of c.args.cell.value in
    let shape = shape_of c.args.self.now.fields.now c.args.self.now.widths.now c.args.cell.number in
    let taken = value_width shape.data_type value in
    rw p.1
    (second_not_sent _ _ _ _ _ _ (before shape taken) (value_text table_notation shape.data_type value ++ behind shape taken)
    (rw (c.before-2.ensures, c.value_width-taken.ensures, c.shape-shape.ensures) at c.in_ok-send_part.ensures.bytes)
    (head_not_sent _ _ _ _ (value_text table_notation shape.data_type value) (behind shape taken) (rw c.shape-shape.ensures at c.in_err-send_value.ensures.bytes)))

pub returns-clause-bytes : goal.returns-clause-bytes
returns-clause-bytes g c =
    let value = value_of c.args.cell.value in
    let shape = shape_of c.args.self.now.fields.now c.args.self.now.widths.now c.args.cell.number in
    let taken = value_width shape.data_type value in
    sent_behind _ _ _ _ _ _ _ (before shape taken) (value_text table_notation shape.data_type value ++ behind shape taken)
    (rw (c.before-2.ensures, c.value_width-taken.ensures, c.shape-shape.ensures) at c.in_ok-send_part.ensures.bytes)
    (sent_behind _ _ _ _ _ _ _ (value_text table_notation shape.data_type value) (behind shape taken) (rw c.shape-shape.ensures at c.in_ok-send_value.ensures.bytes)
    (rw (c.behind.ensures, c.value_width-taken.ensures, c.shape-shape.ensures) at c.send_part-2.ensures.bytes))
