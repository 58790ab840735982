use Rattle.std.proofs.Common.{◌≡◌, drop}
use Rattle.sql_text.specs.Words.{meaning_in}
use Rattle.sql_text.specs.Calls.{rows_of}
use Rattle.sql_text.proofs.word.find.Given as goal

abbrev pub invariant-loop-row : goal.invariant-loop-row
invariant-loop-row l = meaning_in (rows_of (drop l.row-index l.rows)) l.text ≡ meaning_in (rows_of l.rows) l.text
