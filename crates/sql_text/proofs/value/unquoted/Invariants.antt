use Rattle.std.proofs.Common.{◌≡◌, ◌++◌, length}
use Rattle.std.specs.Prelude.{string_bytes}
use Rattle.std.specs.Str.{IsUtf8}
use Rattle.sql_text.specs.Values.{undoubled, unquoted}
use Rattle.sql_text.proofs.value.unquoted.Given as goal

abbrev pub invariant-loop-at : goal.invariant-loop-at
invariant-loop-at l = record {
  utf8 : IsUtf8 l.rest;
  left : string_bytes l.value ++ undoubled l.quote l.rest ≡ unquoted l.quote l.text;
}

abbrev pub decreases-loop-at : goal.decreases-loop-at
decreases-loop-at l = length l.rest
