use Rattle.std.proofs.Common.{◌≡◌, ◌++◌, map, take}
use Rattle.std.specs.Arc.{arc_value}
use Rattle.std.specs.List.{flat_map}
use Rattle.arrays.specs.Texts.{texts_values}
use Rattle.arrays.specs.inside.Runs.{runs_values}
use Rattle.arrays.proofs.runs.Runs.append_parts.Given as goal

abbrev pub invariant-loop-run : goal.invariant-loop-run
invariant-loop-run l =
    flat_map (λ part. texts_values part.now) l.parts.items ≡ flat_map (λ part. texts_values part.now) l.fn.parts.items ++ runs_values (map arc_value (take l.run-index l.run-items))
