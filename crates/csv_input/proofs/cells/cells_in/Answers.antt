use Rattle.std.proofs.Common.{ap, sym, ◌∙◌}
use Rattle.csv_columns.specs.FieldValues.{cell_in}
use Rattle.csv_input.proofs.Columnar.{cells_more}
use Rattle.csv_input.proofs.cells.cells_in.Goals as goal

pub loop-row-preserved : goal.loop-row-preserved
loop-row-preserved c =
    let column = c.args.column.now in
    cells_more c.args.chunk.now column c.args.number c.loop-row.row c.loop-row.cells.items c.push.new.self.items c.in-Some.cell c.in_ok-push.ensures.items
    (ap (cell_in column) (sym c.field.ensures) ∙ sym c.in-Some.ensures.value) c.in-Some.ensures.typed c.loop-row.invariant
