use Rattle.std.proofs.Common.{◌≡◌, map, take}
use Rattle.array_select.specs.inside.SlotFilling.{flag_of}
use Rattle.array_select.specs.inside.GatheredMany.{values_at}
use Rattle.array_select.proofs.many_places.SlotPlaces.pack_flags.Given as goal

abbrev pub invariant-loop-number : goal.invariant-loop-number
invariant-loop-number l = l.bits ≡ map flag_of (take l.number (values_at l.self))
