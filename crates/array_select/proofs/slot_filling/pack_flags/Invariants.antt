use Rattle.std.proofs.Common.{◌≡◌, map, take}
use Rattle.array_select.specs.inside.SlotFilling.{flag_of}
use Rattle.array_select.proofs.slot_filling.pack_flags.Given as goal

abbrev pub invariant-loop-slot : goal.invariant-loop-slot
invariant-loop-slot g l = l.bits ≡ map flag_of (map g.S.Source.held (take l.slot-index l.slots))
