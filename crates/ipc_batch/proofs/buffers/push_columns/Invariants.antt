use Rattle.std.proofs.Common.{◌≡◌, ◌++◌, drop}
use Rattle.ipc_batch.specs.WrittenMessages.{batch_buffers_written}
use Rattle.ipc_batch.proofs.buffers.push_columns.Given as goal

abbrev pub invariant-loop-column : goal.invariant-loop-column
invariant-loop-column l = l.buffers.items ++ batch_buffers_written (drop l.column-index l.columns) ≡ l.fn.buffers.items ++ batch_buffers_written l.columns
