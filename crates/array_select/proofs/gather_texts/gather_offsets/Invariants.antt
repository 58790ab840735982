use Rattle.std.proofs.Common.{◌≡◌, ◌++◌, ◌+◌, drop, length}
use Rattle.arrays.specs.WrittenSlots.{texts_joined, offsets_from}
use Rattle.array_select.specs.inside.GatheredSlots.{texts_at}
use Rattle.array_select.proofs.gather_texts.gather_offsets.Given as goal

abbrev pub invariant-loop-place : goal.invariant-loop-place
invariant-loop-place l = record {
  total : l.offset + length (texts_joined (texts_at l.cells l.first (drop l.place-index l.places))) ≡ length (texts_joined (texts_at l.cells l.first l.places));
  out : l.offsets.items ++ offsets_from l.offset (texts_at l.cells l.first (drop l.place-index l.places)) ≡ offsets_from 0 (texts_at l.cells l.first l.places);
}
