use Rattle.std.proofs.Common.{◌≡◌, ◌<◌, ℕ, None, All, [], length, get_or}
use Rattle.csv.specs.Records.{fields_of}
use Rattle.arrow_types.specs.declared.schema.Field.{Field}
use Rattle.arrow_types.specs.Schema.{IsField}
use Rattle.arrow_types.specs.DataType.{encoding_of}
use Rattle.csv_columns.specs.SpelledColumns.{spelled}
use Rattle.csv_columns.proofs.reading.fields_in.Given as goal

abbrev pub invariant-loop-place : goal.invariant-loop-place
invariant-loop-place l = record {
  many : length l.columns ≡ l.place;
  each : (k : ℕ) (d : Field) → k < l.place → spelled (get_or l.columns k d) ≡ get_or (fields_of l.spellings) k [];
  named : All IsField l.columns;
  plain : All (λ (column : Field). encoding_of column.data_type ≡ None) l.columns;
}
