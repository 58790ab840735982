use Rattle.csv_input.specs.inside.Cells.{AreColumnsIn}
use Rattle.csv_input.proofs.batch.columns_in.Given as goal

abbrev pub invariant-loop-number : goal.invariant-loop-number
invariant-loop-number l = AreColumnsIn l.chunk l.columns l.made.items l.number
