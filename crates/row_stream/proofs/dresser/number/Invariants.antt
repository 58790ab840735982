use Rattle.std.proofs.Common.{◌≡◌, take}
use Rattle.row_stream.specs.Stream.{numbered_from}
use Rattle.row_stream.proofs.dresser.number.Given as goal

-- the columns so far have their numbers
abbrev pub invariant-loop-field : goal.invariant-loop-field
invariant-loop-field l = record {
  fields : l.fields ≡ numbered_from 0 (take l.field-index l.schema.fields);
  number : l.number ≡ l.field-index;
}
