use Rattle.std.proofs.Common.{◌≡◌, ◌<◌, ℕ, None, List, All, length, get_or}
use Rattle.csv.specs.Records.{fields_of}
use Rattle.arrow_types.specs.declared.schema.Field.{Field}
use Rattle.arrow_types.specs.Schema.{IsField, IsName}
use Rattle.arrow_types.specs.DataType.{encoding_of}
use Rattle.csv_columns.specs.FittingColumns.{column_seen, name_of}
use Rattle.csv_columns.specs.inside.Tests.{HaveSeen}
use Rattle.csv_columns.proofs.columns.fields_in.Given as goal

abbrev pub invariant-loop-place : goal.invariant-loop-place
invariant-loop-place l = record {
  many : length l.columns ≡ l.place;
  found : (records : List (List (List ℕ))) → HaveSeen l.seen records
      → (k : ℕ) (d : Field) → k < l.place → get_or l.columns k d ≡ column_seen l.header (fields_of l.first) records k;
  names : (k : ℕ) → k < l.place → IsName (name_of l.header (fields_of l.first) k);
  named : All IsField l.columns;
  plain : All (λ (column : Field). encoding_of column.data_type ≡ None) l.columns;
}
