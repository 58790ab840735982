-- Inside: places of rows among the keys that were found.
use Rattle.std.specs.Prelude.{◌≡◌, ◌<◌, ℕ, All, List, [], ◌∷◌, length, map, get_or, take}
use Rattle.scan_base.specs.declared.value.Value.{Value}
use Rattle.arrays.specs.Batch.{BatchAt, row_of}
use Rattle.arrays.specs.Column.{ColumnAt}
use Rattle.grouping.specs.declared.key.Place.{Place}
use Rattle.first_rows.specs.declared.key.RowKey.{RowKey}
use Rattle.grouping.specs.declared.table.ChosenRows.{ChosenRows}
use Rattle.grouping.specs.FedRows.{batch_at}
use Rattle.grouping.specs.FoundKeys.{found_then, key_in, place_in}
use Rattle.first_rows.specs.RowKeys.{key_of}

-- the keys that were found, by the first rows; without columns there is one key
abbrev pub found_by : List ℕ → List RowKey → List (List Value)
found_by [] firsts = [] ∷ []
found_by (key ∷ keys) firsts = map key_of firsts

-- the group of each of the first `count` rows is the place of its key
pub record ArePlaced (keys : List ℕ) (columns : List ColumnAt) (found : List (List Value))
    (rows groups : List ℕ) (count : ℕ) : Type 0 where
  pub long : length groups ≡ count
  pub each : (k : ℕ) → k < count →
      get_or groups k 0 ≡ place_in found (key_in keys (row_of columns (get_or rows k 0)))
  pub there : (k : ℕ) → k < count → get_or groups k 0 < length found

-- the batch is that of the number
pub record IsBatchAt (batches : List BatchAt) (number : ℕ) (batch : BatchAt) : Type 0 where
  pub there : number < length batches
  pub same : batch ≡ batch_at batches number

-- a first row is in the batch of its number, and its key is in these columns of it
pub record IsFirst (batches : List BatchAt) (keys : List ℕ) (first : RowKey) : Type 0 where
  pub stands : IsBatchAt batches first.number first.batch.now
  pub keyed : first.columns.now ≡ keys

-- first rows stay first rows, wherever the chosen rows are in the batch of their number
abbrev pub FirstsStay : ChosenRows → List RowKey → List RowKey → Type 0
FirstsStay chosen before after =
    (batches : List BatchAt) → IsBatchAt batches chosen.number chosen.batch.now →
    All (IsFirst batches chosen.columns.now) before → All (IsFirst batches chosen.columns.now) after

-- where a first row stands
abbrev pub place_of : RowKey → Place
place_of first = record { batch = first.number; row = first.row }

-- the keys of the first so many of these rows were found after earlier ones, and each of these rows
-- has the place of its key
pub record IsFinding (chosen : ChosenRows) (before : List RowKey) (count : ℕ) (firsts : List RowKey)
    (groups : List ℕ) : Type 0 where
  pub found : map key_of firsts ≡ found_then chosen.columns.now (map key_of before)
      (map (row_of chosen.batch.now.columns) (take count chosen.rows.now))
  pub placed : ArePlaced chosen.columns.now chosen.batch.now.columns
      (map key_of firsts) chosen.rows.now groups count
  pub kept : FirstsStay chosen before firsts
