use Rattle.std.proofs.Common.{◌≡◌, map, drop, slice_get}
use Rattle.std.specs.Arc.{arc_value}
use Rattle.arrays.specs.inside.Runs.{runs_values}
use Rattle.arrays.proofs.runs.Runs.get.Given as goal

abbrev pub invariant-loop-run : goal.invariant-loop-run
invariant-loop-run l =
    slice_get (runs_values (map arc_value (drop l.run-index l.run-items))) l.left
    ≡ slice_get (runs_values (map arc_value l.run-items)) l.fn.index
