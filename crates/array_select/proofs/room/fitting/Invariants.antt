use Rattle.std.proofs.Common.{◌≤◌, ◌<◌, length}
use Rattle.array_select.proofs.room.fitting.Given as goal

abbrev pub invariant-loop-share : goal.invariant-loop-share
invariant-loop-share l = (0 < l.count) × (l.count ≤ length l.slots)

abbrev pub decreases-loop-share : goal.decreases-loop-share
decreases-loop-share l = l.count
