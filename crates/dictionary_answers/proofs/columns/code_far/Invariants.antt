use Rattle.std.proofs.Common.{map, nat_eq, take}
use Rattle.std.specs.List.{range_with_len}
use Rattle.indexmap.specs.IndexMap.{get}
use Rattle.arrays.specs.Column.{slot_of}
use Rattle.dictionary_answers.specs.inside.CodedTexts.{AreCoded, coded_texts_at}
use Rattle.dictionary_answers.specs.inside.PackedPlaces.{numbers_in}
use Rattle.dictionary_answers.specs.inside.Table.{AreMet}
use Rattle.dictionary_answers.proofs.columns.code_far.Given as goal

-- the slots so far are coded, and the map leads to their texts
abbrev pub invariant-loop-place : goal.invariant-loop-place
invariant-loop-place l = record {
  coded : AreCoded (map (slot_of l.of.column.now) (range_with_len 0 l.place)) l.initial.found.left (coded_texts_at l.found (take l.place (numbers_in l.packed)));
  met : AreMet l.of.cells.dictionary l.found.texts (get nat_eq l.met);
}
