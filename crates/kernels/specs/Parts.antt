-- Inside: parts of columns, and what a test says of their slots.
use Rattle.std.specs.Prelude.{◌≤◌, ◌+◌, ℕ, List, map}
use Rattle.std.specs.List.{range_with_len}
use Rattle.scan_base.specs.declared.truth.Truth.{Truth}
use Rattle.scan_base.specs.declared.value.Value.{Value}
use Rattle.scan_base.specs.Predicate.{cell_in}
use Rattle.arrays.specs.Column.{slot_of}
use Rattle.kernels.specs.declared.column_part.ColumnPart.{ColumnPart}
use Rattle.kernels.specs.declared.column_part.RowRange.{RowRange}
use Rattle.kernels.specs.Rows.{AreRowsOf, read_cells}

-- the slots are there
abbrev pub IsPart : ColumnPart → Type 0
IsPart part = part.from + part.len ≤ part.column.now.len

-- what a test says of each slot of a part
abbrev pub said_of : (Value → Truth) → ColumnPart → List Truth
said_of test part =
    map (λ place. test (slot_of part.column.now place)) (range_with_len part.from part.len)

-- the rows are there, with the columns that are read
pub record AreRows (rows : RowRange) : Type 0 where
  pub there : AreRowsOf rows.columns.columns.now rows.columns.read.now rows.columns.count
  pub within : rows.from + rows.len ≤ rows.columns.count

-- the cell of a row in a column, by the number under which it is read
abbrev pub cell_of : RowRange → ℕ → ℕ → Value
cell_of rows row number =
    cell_in (read_cells rows.columns.columns.now rows.columns.read.now row) number

-- what a test says of each of the rows
abbrev pub said_in : (ℕ → Truth) → RowRange → List Truth
said_in test rows = map test (range_with_len rows.from rows.len)
