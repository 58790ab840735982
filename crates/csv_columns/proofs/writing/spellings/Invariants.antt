use Rattle.std.proofs.Common.{◌≡◌, [], map, take}
use Rattle.csv.specs.Records.{fields_of, partial_of}
use Rattle.csv_columns.specs.SpelledColumns.{spelled}
use Rattle.csv_columns.proofs.writing.spellings.Given as goal

abbrev pub invariant-loop-column : goal.invariant-loop-column
invariant-loop-column l = record {
  fields : fields_of l.fields ≡ map spelled (take l.column-index l.columns);
  partial : partial_of l.fields ≡ [];
}
