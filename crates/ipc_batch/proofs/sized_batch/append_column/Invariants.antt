use Rattle.std.proofs.Common.{◌≡◌, ◌++◌, length, take, drop}
use Rattle.array_buffers.specs.ColumnBuffers.{buffers_written as column_written}
use Rattle.ipc_batch.specs.WrittenMessages.{body_of}
use Rattle.ipc_batch.proofs.sized_batch.append_column.Given as goal

abbrev pub invariant-loop-index : goal.invariant-loop-index
invariant-loop-index l = record {
  body : l.body.items ++ body_of (drop l.index (column_written l.column)) ≡ l.fn.body.items ++ body_of (column_written l.column);
  begins : take (length l.fn.body.items) l.body.items ≡ l.fn.body.items;
}
