use Rattle.std.proofs.Common.{◌≡◌, ◌++◌, map, take}
use Rattle.std.specs.Arc.{arc_value}
use Rattle.std.specs.List.{flat_map}
use Rattle.arrays.specs.Texts.{texts_values}
use Rattle.arrays.specs.inside.Runs.{parts_values}
use Rattle.arrays.proofs.runs.Run.append_parts.Given as goal

abbrev pub invariant-loop-part : goal.invariant-loop-part
invariant-loop-part l =
    flat_map (λ part. texts_values part.now) l.parts.items ≡ flat_map (λ part. texts_values part.now) l.fn.parts.items ++ parts_values (map arc_value (take l.part-index l.part-items))
