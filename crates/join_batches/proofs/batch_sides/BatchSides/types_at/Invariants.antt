use Rattle.std.proofs.Common.{◌≡◌, map, take}
use Rattle.join_batches.specs.BatchSides.{type_in}
use Rattle.join_batches.proofs.batch_sides.BatchSides.types_at.Given as goal

-- the types so far
abbrev pub invariant-loop-number : goal.invariant-loop-number
invariant-loop-number l = l.types.items ≡ map (type_in l.self) (take l.number-index l.shown)
