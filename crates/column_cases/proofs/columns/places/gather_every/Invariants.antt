use Rattle.arrays.specs.Batch.{AreLong}
use Rattle.column_cases.proofs.columns.places.gather_every.Given as goal

abbrev pub invariant-loop-column : goal.invariant-loop-column
invariant-loop-column l = AreLong l.rows l.columns.items
