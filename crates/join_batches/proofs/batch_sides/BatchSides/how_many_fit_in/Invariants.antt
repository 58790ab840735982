use Rattle.std.proofs.Common.{◌≤◌, ◌<◌, length}
use Rattle.join_batches.proofs.batch_sides.BatchSides.how_many_fit_in.Given as goal

abbrev pub invariant-loop-alloc : goal.invariant-loop-alloc
invariant-loop-alloc l = (0 < l.count) × (l.count ≤ length l.placed.pairs.now)

abbrev pub decreases-loop-alloc : goal.decreases-loop-alloc
decreases-loop-alloc l = l.count
