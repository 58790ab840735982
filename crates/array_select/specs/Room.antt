-- How much a batch holds that is made of rows.
use Rattle.std.specs.Prelude.{◌≤◌, ◌<◌, ◌*◌, ◌/◌, ℕ, if◌then◌else◌, length, max}
use Rattle.std.specs.List.{sum_by}
use Rattle.arrow_types.specs.declared.data_type.DataType.{DataType}
use Rattle.arrays.specs.Batch.{BatchAt}
use Rattle.arrays.specs.Column.{ColumnAt, values_of}
use Rattle.arrays.specs.WrittenSlots.{texts_joined}
use Rattle.array_select.specs.Fitting.{has_texts}

-- as many rows as such a batch has
abbrev pub most_batch_rows : ℕ
most_batch_rows = 65536

-- as many cells as a batch has, where it has more than one row
abbrev pub most_batch_cells : ℕ
most_batch_cells = 131072

-- as many bytes as the texts of all its columns have then
abbrev pub most_batch_texts : ℕ
most_batch_texts = 2097152

-- how many bytes the texts of a column have
abbrev pub text_bytes_of : ColumnAt → ℕ
text_bytes_of column = length (texts_joined (values_of column))

-- how many bytes the texts of a column of a type may have, where those of one may have so many:
-- values of other types are no texts
abbrev pub allowed : ℕ → DataType → ℕ
allowed share data_type = if has_texts data_type then share else 0

-- how many bytes the texts of each of so many columns may have, where all have the same share
abbrev pub share_among : ℕ → ℕ
share_among columns = most_batch_texts / max columns 1

-- a batch of more than one row has no more cells, and no more bytes of text over all its columns
pub record HasRoom (batch : BatchAt) : Type 0 where
  pub cells : 1 < batch.rows → batch.rows * length batch.columns ≤ most_batch_cells
  pub texts : 1 < batch.rows → sum_by text_bytes_of batch.columns ≤ most_batch_texts
