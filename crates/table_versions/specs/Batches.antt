-- Inside: the batches of a table, each with its place.
use Rattle.std.specs.Prelude.{◌≡◌, ℕ, List, map, Some, slice_get}
use Rattle.arrow_types.specs.declared.schema.Schema.{Schema}
use Rattle.table_versions.specs.declared.placed_batch.PlacedBatch.{PlacedBatch}
use Rattle.table_versions.specs.KeptTables.{IsKept}
use Rattle.table_versions.specs.Standing.{rows_before}
use Rattle.table_versions.specs.StoredTables.{TableAt}

-- a table of these columns and placed batches
abbrev pub placed_table : Schema → List PlacedBatch → TableAt
placed_table schema placed = record { schema = schema; batches = map (λ one. one.batch) placed }

-- each batch tells how many rows stand before it
abbrev pub AreStarts : List PlacedBatch → Type 0
AreStarts placed = (i : ℕ) (one : PlacedBatch) → slice_get placed i ≡ Some one →
    one.start ≡ rows_before (map (λ (each : PlacedBatch). each.batch) placed) i

-- the batches of a stored table of so many rows, each with its place
pub record ArePlaced (schema : Schema) (placed : List PlacedBatch) (rows : ℕ) : Type 0 where
  pub kept : IsKept (placed_table schema placed) rows
  pub starts : AreStarts placed
