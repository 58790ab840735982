use Rattle.std.proofs.Common.{◌≡◌, ◌++◌, ◌+◌, drop, length}
use Rattle.arrays.specs.WrittenSlots.{texts_joined, offsets_from}
use Rattle.array_select.specs.inside.GatheredMany.{values_at}
use Rattle.array_select.proofs.many_places.SlotPlaces.gather_offsets.Given as goal

abbrev pub invariant-loop-number : goal.invariant-loop-number
invariant-loop-number l = record {
  total : l.offset + length (texts_joined (drop l.number (values_at l.self))) ≡ length (texts_joined (values_at l.self));
  out : l.offsets.items ++ offsets_from l.offset (drop l.number (values_at l.self)) ≡ offsets_from 0 (values_at l.self);
}
