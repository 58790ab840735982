-- Inside: bits that say which rows of a column have a value.
use Rattle.std.specs.Prelude.{◌≡◌, ◌≤◌, ◌<◌, ◌+◌, ◌^◌, ℕ, false, not, length, get_or}
use Rattle.scan_base.specs.Predicate.{cell_in}
use Rattle.scan_base.specs.Value.{is_null}
use Rattle.arrays.specs.Batch.{BatchAt, row_of}
use Rattle.group_slots.specs.declared.counts.ValidBits.{ValidBits}

-- there is a bit for each row, which is 0 exactly where the row is null in the column
pub record AreValid (valid : ValidBits) (column : ℕ) (batch : BatchAt) : Type 0 where
  pub room : valid.first + batch.rows ≤ length valid.bits.now
  pub small : valid.first + batch.rows < 2 ^ 64
  pub bits : (row : ℕ) → row < batch.rows →
      is_null (cell_in (row_of batch.columns row) column)
      ≡ not (get_or valid.bits.now (valid.first + row) false)
