use Rattle.std.proofs.Common.{◌+◌, length, take}
use Rattle.join_batches.specs.BatchSides.{HoldCells}
use Rattle.join_batches.proofs.batch_sides.BatchSides.right_slots.Given as goal

abbrev pub invariant-loop-pair : goal.invariant-loop-pair
invariant-loop-pair l = HoldCells l.self (length l.self.left_types.now + l.number) (take l.pair-index l.pairs) l.slots.items
