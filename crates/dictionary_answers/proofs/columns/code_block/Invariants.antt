use Rattle.std.proofs.Common.{◌≡◌}
use Rattle.dictionary_answers.specs.inside.Blocks.{AreCodedTo}
use Rattle.dictionary_answers.specs.inside.Coding.{room_of}
use Rattle.dictionary_answers.specs.inside.Table.{IsTable}
use Rattle.dictionary_answers.proofs.columns.code_block.Given as goal

-- the slots so far are coded, and the table leads to their texts
abbrev pub invariant-loop-place : goal.invariant-loop-place
invariant-loop-place g l = record {
  coded : AreCodedTo l.block.of.now.column.now l.place l.found l.packed;
  room : room_of l.found ≡ room_of l.initial.found;
  table : IsTable l.block.of.now.cells.dictionary l.found.texts l.table;
}
