use Rattle.std.proofs.Common.{◌≤◌, length}
use Rattle.arrays.proofs.runs.kept.Given as goal

abbrev pub invariant-loop-kept : goal.invariant-loop-kept
invariant-loop-kept l = l.kept ≤ length l.runs

abbrev pub decreases-loop-kept : goal.decreases-loop-kept
decreases-loop-kept l = l.kept
