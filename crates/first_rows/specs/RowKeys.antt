-- The key of a row.
use Rattle.std.specs.Prelude.{Bool, List, map}
use Rattle.scan_base.specs.declared.value.Value.{Value}
use Rattle.scan_base.specs.Predicate.{cell_in}
use Rattle.arrays.specs.Batch.{row_of}
use Rattle.typed_plan.specs.GroupedRows.{same_key}
use Rattle.first_rows.specs.declared.key.RowKey.{RowKey}

-- the values of the row in the columns that are the key
abbrev pub key_of : RowKey → List Value
key_of key = map (cell_in (row_of key.batch.now.columns key.row)) key.columns.now

-- whether two rows have the same key
abbrev pub same_first : RowKey → RowKey → Bool
same_first a b = same_key (key_of a) (key_of b)
