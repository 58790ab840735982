use Rattle.std.proofs.Common.{◌≡◌, map, take}
use Rattle.typed_plan.specs.TypedPlans.{type_at, types_of}
use Rattle.row_sources.proofs.scan_source.types_at.Given as goal

abbrev pub invariant-loop-number : goal.invariant-loop-number
invariant-loop-number l = l.types.items ≡ map (type_at (types_of l.fields)) (take l.number-index l.numbers)
