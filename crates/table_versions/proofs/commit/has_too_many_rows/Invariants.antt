use Rattle.std.proofs.Common.{◌≡◌, ◌≤◌, ◌+◌, length, drop}
use Rattle.std.specs.List.{flat_map}
use Rattle.arrays.specs.Batch.{rows_of}
use Rattle.scan_base.specs.Limits.{most_rows}
use Rattle.table_versions.proofs.commit.has_too_many_rows.Given as goal

abbrev pub invariant-loop-batch : goal.invariant-loop-batch
invariant-loop-batch l = record {
  few : l.total ≤ most_rows;
  counted : l.total + length (flat_map rows_of (drop l.batch-index l.batches)) ≡ l.stored + length (flat_map rows_of l.batches);
}
