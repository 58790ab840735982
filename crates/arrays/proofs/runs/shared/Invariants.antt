use Rattle.std.proofs.Common.{◌≡◌, map, take}
use Rattle.std.specs.Arc.{arc_value}
use Rattle.arrays.proofs.runs.shared.Given as goal

abbrev pub invariant-loop-run : goal.invariant-loop-run
invariant-loop-run l = map arc_value l.all.items ≡ map arc_value (take l.run-index l.runs)
