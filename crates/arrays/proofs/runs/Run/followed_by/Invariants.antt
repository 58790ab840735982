use Rattle.std.proofs.Common.{◌≡◌, ◌++◌, map, take}
use Rattle.std.specs.Arc.{arc_value}
use Rattle.arrays.specs.inside.Runs.{parts_values}
use Rattle.arrays.proofs.runs.Run.followed_by.Given as goal

abbrev pub invariant-loop-part : goal.invariant-loop-part
invariant-loop-part l = l.all ≡ l.fn.self ++ parts_values (map arc_value (take l.part-index l.part-items))
