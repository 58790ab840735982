-- Inside: pages of statistics: each has those of 256 batches of a table.
use Rattle.std.specs.Prelude.{◌≡◌, ◌≤◌, ℕ, ◌+◌, ◌*◌, List, length, map, Some, option_map, slice_get}
use Rattle.std.specs.Prelude.{Vec}
use Rattle.std.specs.Global.{Global}
use Rattle.arrow_types.specs.declared.schema.Schema.{Schema}
use Rattle.arrays.specs.Batch.{BatchAt}
use Rattle.batch_stats.specs.declared.owned_stats.OwnedStats.{OwnedStats}
use Rattle.batch_stats.specs.Columns.{stats_in}
use Rattle.batch_stats.specs.OwnedStats.{AreKept}
use Rattle.table_versions.specs.declared.placed_batch.PlacedBatch.{PlacedBatch}
use Rattle.table_versions.specs.declared.stats_page.StatsPage.{StatsPage}
use Rattle.table_versions.specs.Batches.{ArePlaced}

-- these are the rows of batches, from the batch `first` on
abbrev pub AreRowsFrom : List BatchAt → ℕ → List ℕ → Type 0
AreRowsFrom batches first rows = (i n : ℕ) → slice_get rows i ≡ Some n →
    option_map (λ (batch : BatchAt). batch.rows) (slice_get batches (first + i)) ≡ Some n

-- these are kept of a column of the batch of a number
abbrev pub AreOfBatch : List BatchAt → ℕ → ℕ → OwnedStats → Type 0
AreOfBatch batches index column owned =
    (batch : BatchAt) × (slice_get batches index ≡ Some batch)
    × AreKept owned (stats_in batch.columns column)

-- these are kept of a column of batches, from the batch `first` on
abbrev pub AreStatsFrom : List BatchAt → ℕ → ℕ → List OwnedStats → Type 0
AreStatsFrom batches first column all = (i : ℕ) (owned : OwnedStats) →
    slice_get all i ≡ Some owned → AreOfBatch batches (first + i) column owned

-- what a page has is of the batches from the batch `first` on
pub record IsPageFrom (batches : List BatchAt) (first : ℕ) (page : StatsPage) : Type 0 where
  pub rows : AreRowsFrom batches first page.rows.items
  pub columns : (column : ℕ) (all : Vec OwnedStats Global) →
      slice_get page.columns.items column ≡ Some all → AreStatsFrom batches first column all.items

-- page p has the batches from the batch 256 p on
pub record ArePages (batches : List BatchAt) (pages : List StatsPage) : Type 0 where
  pub few : length pages ≤ length batches
  pub each : (p : ℕ) (page : StatsPage) → slice_get pages p ≡ Some page →
      IsPageFrom batches (p * 256) page

-- the batches of a stored table of so many rows, each with its place, and the statistics of some of
-- them
pub record AreStored (schema : Schema) (batches : List PlacedBatch) (pages : List StatsPage)
    (rows : ℕ) : Type 0 where
  pub placed : ArePlaced schema batches rows
  pub paged : ArePages (map (λ (one : PlacedBatch). one.batch) batches) pages
