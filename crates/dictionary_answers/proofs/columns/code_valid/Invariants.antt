use Rattle.std.proofs.Common.{◌≡◌, ◌≤◌, ◌-◌}
use Rattle.dictionary_answers.specs.inside.Blocks.{AreCodedTo}
use Rattle.dictionary_answers.specs.inside.Coding.{room_of}
use Rattle.dictionary_answers.specs.inside.Table.{IsTable}
use Rattle.dictionary_answers.proofs.columns.code_valid.Given as goal

-- the slots of the blocks so far are coded, and the table leads to their texts
abbrev pub invariant-loop-from : goal.invariant-loop-from
invariant-loop-from g l = record {
  within : l.from ≤ l.count;
  coded : AreCodedTo l.of.column.now l.from l.found l.packed;
  room : room_of l.found ≡ l.initial.found.left;
  table : IsTable l.of.cells.dictionary l.found.texts l.table;
}

abbrev pub decreases-loop-from : goal.decreases-loop-from
decreases-loop-from g l = l.count - l.from
