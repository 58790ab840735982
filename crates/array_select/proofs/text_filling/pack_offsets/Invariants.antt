use Rattle.std.proofs.Common.{◌≡◌, ◌++◌, ◌+◌, drop, length, map}
use Rattle.arrays.specs.WrittenSlots.{texts_joined, offsets_from}
use Rattle.array_select.proofs.text_filling.pack_offsets.Given as goal

abbrev pub invariant-loop-slot : goal.invariant-loop-slot
invariant-loop-slot g l = record {
  total : l.offset + length (texts_joined (map g.S.Source.held (drop l.slot-index l.slots))) ≡ length (texts_joined (map g.S.Source.held l.slots));
  out : l.offsets.items ++ offsets_from l.offset (map g.S.Source.held (drop l.slot-index l.slots)) ≡ offsets_from 0 (map g.S.Source.held l.slots);
}
