use Rattle.std.proofs.Common.{◌≡◌, ◌≤◌, ◌-◌, length, map}
use Rattle.std.specs.Str.{IsUtf8}
use Rattle.scan_base.proofs.ReadingLaws.{behind}
use Rattle.sql_text.specs.Calls.{lexeme_of}
use Rattle.sql_text.specs.Reading.{tokens_from}
use Rattle.sql_text.proofs.scan.read_tokens.Given as goal

abbrev pub invariant-loop-rest : goal.invariant-loop-rest
invariant-loop-rest l = record {
  utf8 : IsUtf8 l.rest;
  small : length l.sql ≤ 16384;
  within : length l.rest ≤ length l.sql;
  left : behind (map lexeme_of l.tokens.items) (tokens_from (length l.sql - length l.rest) l.rest) ≡ tokens_from 0 l.sql;
}

abbrev pub decreases-loop-rest : goal.decreases-loop-rest
decreases-loop-rest l = length l.rest
