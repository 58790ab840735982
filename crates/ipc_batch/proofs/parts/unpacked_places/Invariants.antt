use Rattle.std.proofs.Common.{◌≡◌, map}
use Rattle.std.specs.List.{range_with_len}
use Rattle.ipc_batch.specs.Parts.{place_at}
use Rattle.ipc_batch.proofs.parts.unpacked_places.Given as goal

abbrev pub invariant-loop-j : goal.invariant-loop-j
invariant-loop-j l = l.places.items ≡ map (place_at l.structs) (range_with_len 0 l.j)
