use Rattle.std.proofs.Common.{◌≡◌, ◌++◌, [], take}
use Rattle.csv.specs.Records.{fields_of, partial_of}
use Rattle.csv_input.proofs.chunk.push_fields.Given as goal

abbrev pub invariant-loop-place : goal.invariant-loop-place
invariant-loop-place l = record {
  fields : fields_of l.all ≡ fields_of l.initial.all ++ take l.place (fields_of l.fields);
  partial : partial_of l.all ≡ [];
}
