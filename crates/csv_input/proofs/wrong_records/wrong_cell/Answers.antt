use Rattle.std.proofs.Common.{not, ap, get_or, [], ◌∙◌}
use Rattle.csv.specs.Records.{fields_of}
use Rattle.csv_columns.specs.FieldValues.{cell_in}
use Rattle.csv_input.proofs.Columnar.{judged}
use Rattle.csv_input.proofs.Faulty.{first_more}
use Rattle.csv_input.proofs.wrong_records.wrong_cell.Goals as goal

pub loop-number-preserved : goal.loop-number-preserved
loop-number-preserved c =
    let fields = fields_of c.args.fields.now in
    let number = c.loop-number.number in
    let column = c.index-columns-number.result in
    let value = c.cell_in.ensures.value ∙ ap (cell_in column) c.field_in.ensures in
    first_more c.args.columns.now fields number column c.loop-number-test.true c.index-columns-number.is
    (judged (cell_in column (get_or fields number [])) c.cell_in.result value (c.is_none.ensures ∙ ap not c.if-is_none.false)) c.loop-number.invariant
