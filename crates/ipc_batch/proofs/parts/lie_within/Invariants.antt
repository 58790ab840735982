use Rattle.std.proofs.Common.{◌≡◌, map}
use Rattle.std.specs.List.{list_all, range_with_len}
use Rattle.ipc_batch.specs.Parts.{place_at, lies_in}
use Rattle.ipc_batch.proofs.parts.lie_within.Given as goal

abbrev pub invariant-loop-j : goal.invariant-loop-j
invariant-loop-j l = l.all ≡ list_all (lies_in l.body) (map (place_at l.structs) (range_with_len 0 l.j))
