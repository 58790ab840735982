use Rattle.std.proofs.Common.{map}
use Rattle.array_select.specs.inside.SlotFilling.{AreNumbersOf}
use Rattle.array_select.proofs.slot_filling.pack_numbers.Given as goal

abbrev pub invariant-loop-slot : goal.invariant-loop-slot
invariant-loop-slot g l = AreNumbersOf l.width l.packed.items (map g.S.Source.held l.slots) l.slot-index
