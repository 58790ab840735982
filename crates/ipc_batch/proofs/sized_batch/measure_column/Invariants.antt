use Rattle.std.proofs.Common.{◌≡◌, ◌+◌, ◌++◌, ◌<◌, ◌^◌, length, drop, map}
use Rattle.array_buffers.specs.ColumnBuffers.{buffers_written as column_written}
use Rattle.ipc_batch.specs.WrittenMessages.{body_of}
use Rattle.ipc_batch.proofs.sized_batch.measure_column.Given as goal

abbrev pub invariant-loop-index : goal.invariant-loop-index
invariant-loop-index l = record {
  low : l.end < 2 ^ 31;
  all : l.end + length (body_of (drop l.index (column_written l.column))) ≡ l.start + length (body_of (column_written l.column));
  each : l.lengths.items ++ map length (drop l.index (column_written l.column)) ≡ l.fn.lengths.items ++ map length (column_written l.column);
}
