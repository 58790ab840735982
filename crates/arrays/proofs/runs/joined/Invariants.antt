use Rattle.std.proofs.Common.{◌≡◌, map, take}
use Rattle.std.specs.Arc.{arc_value}
use Rattle.arrays.specs.inside.Runs.{runs_values}
use Rattle.arrays.proofs.runs.joined.Given as goal

abbrev pub invariant-loop-run : goal.invariant-loop-run
invariant-loop-run l = l.all ≡ runs_values (map arc_value (take l.run-index l.runs))
