use Rattle.std.proofs.Common.{◌≡◌, ◌≤◌, ◌-◌, ◌++◌, ℕ, List, [], length, take, drop, Option}
use Rattle.std.specs.Prelude.{unwrap_or}
use Rattle.flight_proto.specs.Lookup.{bytes_within}
use Rattle.flight_proto.proofs.Lookups.{read_on}
use Rattle.flight_proto.proofs.flight_data.cut.Given as goal

-- the bytes that are left are the message's end, and the last chunk so far lies between the two places
abbrev pub invariant-loop-field : goal.invariant-loop-field
invariant-loop-field l = record {
  front : List ℕ;
  last : Option (List ℕ);
  whole : l.message ≡ front ++ l.fields;
  place : unwrap_or last [] ≡ take (l.end - l.start) (drop l.start l.message);
  ordered : l.start ≤ l.end;
  within : l.end ≤ length l.message;
  read : bytes_within l.number l.message ≡ read_on last l.number l.fields;
}

abbrev pub decreases-loop-field : goal.decreases-loop-field
decreases-loop-field l = length l.fields
