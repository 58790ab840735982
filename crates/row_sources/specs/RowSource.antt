-- Rows of a plan's tree before the first one, as a caller sees them.
use Rattle.std.specs.Prelude.{ℕ}
use Rattle.row_sources.specs.Running.{RowsAt}

-- the rows that are to be given, and how many there are before the filters
pub record SourceAt : Type 0 where
  pub rows : RowsAt
  pub count : ℕ
