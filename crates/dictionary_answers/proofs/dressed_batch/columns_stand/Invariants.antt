use Rattle.std.proofs.Common.{All, take}
use Rattle.arrays.specs.Column.{IsColumn}
use Rattle.dictionary_answers.proofs.dressed_batch.columns_stand.Given as goal

abbrev pub invariant-loop-column : goal.invariant-loop-column
invariant-loop-column l = All IsColumn (take l.column-index l.columns)
