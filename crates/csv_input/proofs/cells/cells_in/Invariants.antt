use Rattle.csv_input.specs.inside.Cells.{AreCells}
use Rattle.csv_input.proofs.cells.cells_in.Given as goal

abbrev pub invariant-loop-row : goal.invariant-loop-row
invariant-loop-row l = AreCells l.chunk l.column l.number l.cells.items l.row
