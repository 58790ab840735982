use Rattle.std.proofs.Common.{◌≡◌, ◌+◌, take, length, map}
use Rattle.array_select.specs.OfSlots.{slot_value}
use Rattle.arrays.specs.WrittenSlots.{texts_joined}
use Rattle.array_select.proofs.of_slots.texts_fit.Given as goal

-- what is left, and the bytes of the texts so far
abbrev pub invariant-loop-slot : goal.invariant-loop-slot
invariant-loop-slot l = length (texts_joined (map slot_value (take l.slot-index l.slots))) + l.left ≡ l.most
