use Rattle.std.proofs.Common.{◌≡◌, ◌+◌, ◌*◌, ◌^◌, ◌≤◌, drop, length}
use Rattle.std.specs.List.{flat_map}
use Rattle.arrays.specs.Batch.{rows_of}
use Rattle.row_text.proofs.table.count_rows.Given as goal

abbrev pub invariant-loop-batch : goal.invariant-loop-batch
invariant-loop-batch l = record {
  all : l.count + length (flat_map rows_of (drop l.batch-index l.batches)) ≡ length (flat_map rows_of l.batches);
  few : l.count ≤ l.batch-index * 2 ^ 64;
}
