use Rattle.std.proofs.Common.{◌≡◌, ◌≤◌, length}
use Rattle.std.specs.Prelude.{vec_capacity}
use Rattle.client_commands.specs.ParallelFetch.{SharesHandles}
use Rattle.client_commands.proofs.connecting.share_each.Given as goal

abbrev pub invariant-loop-made : goal.invariant-loop-made
invariant-loop-made g l =
    SharesHandles g.C.Connect.shares l.handles.items l.initial.network l.network
    × (length l.handles.items ≡ l._made)
    × (l.most ≤ vec_capacity l.handles)
