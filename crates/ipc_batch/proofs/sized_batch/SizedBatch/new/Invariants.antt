use Rattle.std.proofs.Common.{◌≡◌, ◌+◌, ◌++◌, ◌<◌, ◌^◌, length, drop, map}
use Rattle.ipc_batch.specs.WrittenMessages.{body_of, batch_buffers_written, body_length}
use Rattle.ipc_batch.proofs.sized_batch.SizedBatch.new.Given as goal

abbrev pub invariant-loop-column : goal.invariant-loop-column
invariant-loop-column l = record {
  low : l.end < 2 ^ 31;
  all : l.end + length (body_of (batch_buffers_written (drop l.column-index l.columns))) ≡ body_length l.batch;
  each : l.lengths.items ++ map length (batch_buffers_written (drop l.column-index l.columns)) ≡ map length (batch_buffers_written l.batch.columns);
}
