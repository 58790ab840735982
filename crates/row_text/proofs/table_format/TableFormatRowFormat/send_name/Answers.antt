use Rattle.std.proofs.Common.{◌++◌}
use Rattle.std.proofs.lemmas.Result.{err_from_is_err_and}
use Rattle.grpc_frame.proofs.Sending.{head_not_sent, second_not_sent, sent_behind}
use Rattle.row_text.specs.TableCells.{before, behind, cell_text, text_width}
use Rattle.row_text.specs.Tables.{shape_of}
use Rattle.row_text.proofs.table_format.TableFormatRowFormat.send_name.Goals as goal

pub returns-in_err-send_part-clause-bytes : goal.returns-in_err-send_part-clause-bytes
returns-in_err-send_part-clause-bytes g c =
    let p = err_from_is_err_and c.from_residual.result c.from_residual.ensures.1 in
    let name = c.args.field.now.name in
    let shape = shape_of c.args.self.now.fields.now c.args.self.now.widths.now c.args.number in
    rw p.1
    (head_not_sent _ _ _ _ (before shape (text_width name)) (cell_text name ++ behind shape (text_width name))
    (rw (c.before-2.ensures, c.text_width-taken.ensures, c.as_str-name.ensures, c.shape-shape.ensures) at c.in_err-send_part.ensures.bytes))

pub returns-in_err-send_spelled-clause-bytes : goal.returns-in_err-send_spelled-clause-bytes
returns-in_err-send_spelled-clause-bytes g c =
    let p = err_from_is_err_and c.from_residual-in_err-send_spelled.result c.from_residual-in_err-send_spelled.ensures.1 in
    let name = c.args.field.now.name in
    let shape = shape_of c.args.self.now.fields.now c.args.self.now.widths.now c.args.number in
    rw p.1
    (second_not_sent _ _ _ _ _ _ (before shape (text_width name)) (cell_text name ++ behind shape (text_width name))
    (rw (c.before-2.ensures, c.text_width-taken.ensures, c.as_str-name.ensures, c.shape-shape.ensures) at c.in_ok-send_part.ensures.bytes)
    (head_not_sent _ _ _ _ (cell_text name) (behind shape (text_width name)) (rw c.as_str-name.ensures at c.in_err-send_spelled.ensures.bytes)))

pub returns-clause-bytes : goal.returns-clause-bytes
returns-clause-bytes g c =
    let name = c.args.field.now.name in
    let shape = shape_of c.args.self.now.fields.now c.args.self.now.widths.now c.args.number in
    sent_behind _ _ _ _ _ _ _ (before shape (text_width name)) (cell_text name ++ behind shape (text_width name))
    (rw (c.before-2.ensures, c.text_width-taken.ensures, c.as_str-name.ensures, c.shape-shape.ensures) at c.in_ok-send_part.ensures.bytes)
    (sent_behind _ _ _ _ _ _ _ (cell_text name) (behind shape (text_width name)) (rw c.as_str-name.ensures at c.in_ok-send_spelled.ensures.bytes)
    (rw (c.behind.ensures, c.text_width-taken.ensures, c.as_str-name.ensures, c.shape-shape.ensures) at c.send_part-2.ensures.bytes))
