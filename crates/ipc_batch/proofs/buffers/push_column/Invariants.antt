use Rattle.std.proofs.Common.{◌≡◌, ◌++◌, drop}
use Rattle.array_buffers.specs.ColumnBuffers.{buffers_written as column_written}
use Rattle.ipc_batch.proofs.buffers.push_column.Given as goal

abbrev pub invariant-loop-index : goal.invariant-loop-index
invariant-loop-index l = l.buffers.items ++ drop l.index (column_written l.column) ≡ l.fn.buffers.items ++ column_written l.column
