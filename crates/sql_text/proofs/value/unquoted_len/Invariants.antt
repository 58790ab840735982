use Rattle.std.proofs.Common.{◌≡◌, ◌≤◌, ◌+◌, length}
use Rattle.sql_text.specs.Values.{undoubled, unquoted}
use Rattle.sql_text.proofs.value.unquoted_len.Given as goal

abbrev pub invariant-loop-at : goal.invariant-loop-at
invariant-loop-at l = record {
  left : l.len + length (undoubled l.quote l.rest) ≡ length (unquoted l.quote l.text) + length l.rest;
  more : length l.rest ≤ l.len;
}

abbrev pub decreases-loop-at : goal.decreases-loop-at
decreases-loop-at l = length l.rest
