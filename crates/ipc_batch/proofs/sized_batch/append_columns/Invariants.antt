use Rattle.std.proofs.Common.{◌≡◌, ◌++◌, length, drop, take}
use Rattle.ipc_batch.specs.WrittenMessages.{body_of, batch_buffers_written}
use Rattle.ipc_batch.proofs.sized_batch.append_columns.Given as goal

abbrev pub invariant-loop-column : goal.invariant-loop-column
invariant-loop-column l = record {
  body : l.body.items ++ body_of (batch_buffers_written (drop l.column-index l.columns)) ≡ l.fn.body.items ++ body_of (batch_buffers_written l.columns);
  begins : take (length l.fn.body.items) l.body.items ≡ l.fn.body.items;
}
