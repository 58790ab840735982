use Rattle.std.proofs.Common.{◌≡◌, ◌^◌, ◌-◌, min}
use Rattle.table_versions.specs.Standing.{rows_before}
use Rattle.table_versions.proofs.put.Put.rows.Given as goal

abbrev pub invariant-loop-batch : goal.invariant-loop-batch
invariant-loop-batch l = l.rows ≡ min (rows_before l.self.batches l.batch-index) (2 ^ 64 - 1)
