use Rattle.std.proofs.Common.{◌≡◌, ◌++◌, drop}
use Rattle.arrays.specs.WrittenSlots.{texts_joined}
use Rattle.array_select.specs.inside.GatheredMany.{values_at}
use Rattle.array_select.proofs.many_places.SlotPlaces.gather_bytes.Given as goal

abbrev pub invariant-loop-number : goal.invariant-loop-number
invariant-loop-number l = l.made.items ++ texts_joined (drop l.number (values_at l.self)) ≡ texts_joined (values_at l.self)
