use Rattle.std.proofs.Common.{map, take}
use Rattle.std.specs.List.{range_with_len}
use Rattle.arrays.specs.Column.{slot_of}
use Rattle.dictionary_answers.specs.inside.CodedTexts.{AreCoded, coded_texts_at}
use Rattle.dictionary_answers.specs.inside.PackedPlaces.{numbers_in}
use Rattle.dictionary_answers.proofs.columns.code_values.Given as goal

-- the slots so far are coded
abbrev pub invariant-loop-place : goal.invariant-loop-place
invariant-loop-place l = AreCoded (map (slot_of l.column) (range_with_len 0 l.place)) l.initial.found.left (coded_texts_at l.found (take l.place (numbers_in l.packed)))
