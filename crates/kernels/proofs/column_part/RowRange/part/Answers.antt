use Rattle.std.proofs.Common.{ap, ◌∙◌}
use Rattle.arrays.specs.Column.{ColumnAt, slot_of}
use Rattle.kernels.proofs.Cells.{cell_read}
use Rattle.kernels.proofs.column_part.RowRange.part.Goals as goal

pub returns-clause-cells : goal.returns-clause-cells
returns-clause-cells c = λ row.
    let columns = c.args.self.now.columns.columns.now in
    let read = c.args.self.now.columns.read.now in
    ap (λ (k : ColumnAt). slot_of k row) c.index-all-read.is
    ∙ cell_read columns read row c.args.number c.index-all-read.result c.requires.there.there.there c.requires.column
