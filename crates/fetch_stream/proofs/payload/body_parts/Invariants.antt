use Rattle.std.proofs.Common.{◌≡◌, ◌++◌}
use Rattle.std.specs.List.{flat_map}
use Rattle.std.specs.Vec.Iter.{into_iter_items}
use Rattle.flatbuf.specs.Block.{padded}
use Rattle.fetch_stream.proofs.payload.body_parts.Given as goal

abbrev pub invariant-loop-buffer : goal.invariant-loop-buffer
invariant-loop-buffer l = flat_map (λ part. part) l.parts.items ++ flat_map padded (into_iter_items l.buffer-iterator) ≡ flat_map padded l.fn.buffers.items
