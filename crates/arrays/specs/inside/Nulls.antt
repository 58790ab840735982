-- Inside: how many slots of a column are null, as it keeps it.
use Rattle.std.specs.Prelude.{◌≡◌, ℕ}
use Rattle.arrays.specs.Column.{ColumnAt, IsColumn}
use Rattle.arrays.specs.Nulls.{null_count}

-- a column's slots are slots of the layout, and this many of them are null
pub record IsCounted (column : ColumnAt) (count : ℕ) : Type 0 where
  pub stands : IsColumn column
  pub nulls : count ≡ null_count column
