-- Tables of which a scan reads some batches alone.
use Rattle.std.specs.Prelude.{◌≡◌, ◌≤◌, ◌⊎◌, ◌<◌, ℕ, ◌+◌, ◌-◌, IsTrue, List, [], ◌∷◌, length, min}
use Rattle.std.specs.Prelude.{slice_get}
use Rattle.std.specs.List.{flat_map}
use Rattle.std.specs.Option.{option_to_list}
use Rattle.arrays.specs.Batch.{BatchAt, rows_of}
use Rattle.scan_base.specs.Limits.{most_rows}
use Rattle.table_versions.specs.Standing.{rows_before}
use Rattle.table_versions.specs.StoredTables.{TableAt}
use Rattle.batch_skipping.specs.ChosenColumns.{are_within}

-- the batches of these numbers
abbrev pub batches_at : List ℕ → List BatchAt → List BatchAt
batches_at numbers batches = flat_map (λ number. option_to_list (slice_get batches number)) numbers

-- a table of these batches alone
abbrev pub narrowed : List ℕ → TableAt → TableAt
narrowed numbers table = record table { batches = batches_at numbers table.batches }

-- the batches are there, and have so many rows, which are no more than a table may have
pub record CanNarrow (table : TableAt) (numbers : List ℕ) (rows : ℕ) : Type 0 where
  pub there : IsTrue (are_within (length table.batches) numbers)
  pub counted : rows ≡ length (flat_map rows_of (batches_at numbers table.batches))
  pub few : rows ≤ most_rows

-- a range that begins with the rows, or within the first batch
abbrev pub BeginsInFirst : ℕ → List BatchAt → Type 0
BeginsInFirst from batches = (from ≡ 0) ⊎ (from < rows_before batches 1)

-- The first row of a range, counted among the rows of the batches of these numbers. The first of
-- them is the first batch that has a row after it.
abbrev pub narrowed_from : ℕ → List BatchAt → List ℕ → ℕ
narrowed_from from batches [] = 0
narrowed_from from batches (number ∷ numbers) = from - rows_before batches number

-- how many rows before this one the batches of these numbers have
abbrev pub narrowed_to : ℕ → List BatchAt → List ℕ → ℕ
narrowed_to to batches [] = 0
narrowed_to to batches (number ∷ numbers) =
    min (rows_before batches (number + 1)) to - rows_before batches number
    + narrowed_to to batches numbers
