-- Columns side by side, and the rows that they hold.
use Rattle.std.specs.Prelude.{◌≡◌, ◌≤◌, ℕ, ◌-◌, List, map, take, drop, All}
use Rattle.std.specs.List.{range_with_len}
use Rattle.scan_base.specs.declared.value.Value.{Value}
use Rattle.arrays.specs.Column.{ColumnAt, slot_of, cut}

-- a number of rows, and a column for each field
pub record BatchAt : Type 0 where
  pub columns : List ColumnAt
  pub rows : ℕ

-- each column has a slot for each row
abbrev pub AreLong : ℕ → List ColumnAt → Type 0
AreLong rows columns = All (λ column. column.len ≡ rows) columns

-- row j: slot j of each column
abbrev pub row_of : List ColumnAt → ℕ → List Value
row_of columns j = map (λ column. slot_of column j) columns

-- the rows, in order
abbrev pub rows_of : BatchAt → List (List Value)
rows_of batch = map (row_of batch.columns) (range_with_len 0 batch.rows)

-- the rows `from` up to, not with, `to`
abbrev pub cut_batch : BatchAt → ℕ → ℕ → BatchAt
cut_batch batch from to =
    record { columns = map (λ column. cut column from to) batch.columns; rows = to - from }

-- the rows `from` up to, not with, `to` are those of the batch, from one to the other
abbrev pub BatchSlicesKeepRows : Type 0
BatchSlicesKeepRows = (batch : BatchAt) (from to : ℕ) → from ≤ to → to ≤ batch.rows →
    rows_of (cut_batch batch from to) ≡ take (to - from) (drop from (rows_of batch))
