-- Batches of all rows that are still to be given.
use Rattle.std.specs.Prelude.{◌≡◌, ◌≤◌, ◌<◌, All, ℕ, List, map}
use Rattle.std.specs.List.{flat_map}
use Rattle.arrow_types.specs.declared.data_type.DataType.{DataType}
use Rattle.arrays.specs.Batch.{BatchAt, rows_of}
use Rattle.arrays.specs.TypedLayouts.{AreOf}
use Rattle.table_versions.specs.Table.{Row}
use Rattle.row_sources.specs.Running.{RowsAt}
use Rattle.array_select.specs.Room.{most_batch_rows}

-- rows without the numbers of the batches of which they come
abbrev pub plain_rows : List (ℕ × Row) → List Row
plain_rows rows = map (λ (row : ℕ × Row). row.1) rows

-- a batch of rows, one or more, in columns of the types
pub record IsBatchOf (types : List DataType) (batch : BatchAt) : Type 0 where
  pub some : 0 < batch.rows
  pub few : batch.rows ≤ most_batch_rows
  pub typed : AreOf types batch.columns

-- the batches have all rows, and all batches that were to be opened were
pub record AreCollected (before : RowsAt) (batches : List BatchAt) (after : RowsAt) : Type 0 where
  pub rows : flat_map rows_of batches ≡ plain_rows before.ahead
  pub each : All (IsBatchOf before.types) batches
  pub all : after.opened ≡ before.batches
