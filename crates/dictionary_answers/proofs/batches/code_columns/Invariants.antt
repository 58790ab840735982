use Rattle.std.proofs.Common.{◌≡◌, ◌+◌, map, take}
use Rattle.dictionary_answers.specs.Answer.{AreAnswered, coded_bytes, dictionaries_of, dictionary_seen}
use Rattle.dictionary_answers.proofs.batches.code_columns.Given as goal

-- the columns so far are answered
abbrev pub invariant-loop-place : goal.invariant-loop-place
invariant-loop-place l = record {
  answered : AreAnswered (take l.place l.fields) (take l.place l.columns) l.made.items;
  dictionaries : map dictionary_seen l.dictionaries.items ≡ dictionaries_of 0 (take l.place l.fields) (take l.place l.columns);
  left : coded_bytes (take l.place l.fields) (take l.place l.columns) + l.left ≡ l.room;
}
