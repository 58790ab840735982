use Rattle.std.proofs.Common.{◌≡◌, ◌+◌, ◌++◌, length, drop}
use Rattle.std.specs.List.{flat_map}
use Rattle.ipc_batch.specs.WrittenMessages.{body_of, batch_buffers_written, places_from, place_bytes}
use Rattle.ipc_batch.proofs.sized_batch.SizedBatch.place_structs.Given as goal

abbrev pub invariant-loop-length : goal.invariant-loop-length
invariant-loop-length l = record {
  end : l.end + length (body_of (drop l.length-index (batch_buffers_written l.self.columns))) ≡ length (body_of (batch_buffers_written l.self.columns));
  places : l.structs.items ++ flat_map place_bytes (places_from l.end (drop l.length-index (batch_buffers_written l.self.columns)))
      ≡ flat_map place_bytes (places_from 0 (batch_buffers_written l.self.columns));
}
