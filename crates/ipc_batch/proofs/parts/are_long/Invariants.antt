use Rattle.std.proofs.Common.{◌≡◌, ◌==◌, map}
use Rattle.std.specs.List.{list_all, range_with_len}
use Rattle.ipc_batch.specs.Parts.{node_at}
use Rattle.ipc_batch.proofs.parts.are_long.Given as goal

abbrev pub invariant-loop-j : goal.invariant-loop-j
invariant-loop-j l = l.all ≡ list_all (λ node. node.length == l.rows) (map (node_at l.structs) (range_with_len 0 l.j))
