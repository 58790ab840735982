use Rattle.std.proofs.Common.{◌≡◌, drop, take, All}
use Rattle.std.specs.List.{list_any}
use Rattle.arrays.specs.Column.{IsColumn}
use Rattle.table_versions.specs.Columns.{is_long_column}
use Rattle.table_versions.proofs.cells.has_long_column.Given as goal

abbrev pub invariant-loop-column : goal.invariant-loop-column
invariant-loop-column l = record {
  long : list_any is_long_column l.columns ≡ list_any is_long_column (drop l.column-index l.columns);
  stand : All IsColumn (take l.column-index l.columns);
}
