use Rattle.std.proofs.Common.{take}
use Rattle.join_batches.specs.BatchSides.{HoldCells}
use Rattle.join_batches.proofs.batch_sides.BatchSides.left_slots.Given as goal

abbrev pub invariant-loop-pair : goal.invariant-loop-pair
invariant-loop-pair l = HoldCells l.self l.number (take l.pair-index l.pairs) l.slots.items
