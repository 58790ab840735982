-- Where the rows of a table stand among its batches.
use Rattle.std.specs.Prelude.{◌≡◌, ◌≤◌, ◌<◌, ℕ, ◌+◌, ◌-◌, List, length, take, drop, Some, slice_get}
use Rattle.std.specs.List.{flat_map}
use Rattle.arrays.specs.Batch.{BatchAt, rows_of, cut_batch}
use Rattle.table_versions.specs.declared.table.BatchPlace.{BatchPlace}
use Rattle.table_versions.specs.StoredTables.{TableAt, table_of}

-- how many rows stand before batch i
abbrev pub rows_before : List BatchAt → ℕ → ℕ
rows_before batches i = length (flat_map rows_of (take i batches))

-- batch i of a table: the next one begins after its rows, and a cut of it is the table's rows from
-- there
pub record StandsAt (table : TableAt) (i : ℕ) (batch : BatchAt) : Type 0 where
  pub next : rows_before table.batches (i + 1) ≡ rows_before table.batches i + batch.rows
  pub cut : (from to : ℕ) → from ≤ to → to ≤ batch.rows →
      rows_of (cut_batch batch from to)
      ≡ take (to - from) (drop (rows_before table.batches i + from) (table_of table).rows)

-- the rows of a table are those of its batches, in order
abbrev pub BatchesAreRows : Type 0
BatchesAreRows = (table : TableAt) →
    (rows_before table.batches (length table.batches) ≡ length (table_of table).rows)
    × ((i : ℕ) (batch : BatchAt) → slice_get table.batches i ≡ Some batch → StandsAt table i batch)

-- a row of a table stands in the batch of this place; each batch before it has rows
pub record StandsIn (table : TableAt) (row : ℕ) (place : BatchPlace) : Type 0 where
  pub there : place.index < length table.batches
  pub start : place.start ≡ rows_before table.batches place.index
  pub behind : place.start ≤ row
  pub before : row < rows_before table.batches (place.index + 1)
  pub filled : place.index ≤ place.start
