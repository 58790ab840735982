-- A scan cut into morsels: one for each batch of the first place that it opens.
use Rattle.std.specs.Prelude.{◌≡◌, ℕ, ◌==◌, Bool, false, List, [], ◌∷◌, length, get_or, Option}
use Rattle.std.specs.Prelude.{Some, None}
use Rattle.std.specs.List.{filter, flat_map, range_with_len}
use Rattle.table_versions.specs.Table.{Row}
use Rattle.scan_exec.specs.Scan.{ScanAt, left}

-- the batches of the first place
abbrev pub of_first : List (ℕ × ℕ) → List (ℕ × ℕ)
of_first batches = filter (λ (batch : ℕ × ℕ). batch.0 == 0) batches

-- the number in its table of the batch of the first place that is opened as this one, counted from
-- 0
abbrev pub batch_of : ScanAt → ℕ → ℕ
batch_of scan number = (get_or (of_first scan.batches) number (0, 0)).1

-- whether a row comes of this batch of the first place
abbrev pub comes_of : ℕ → Option ℕ → Bool
comes_of number (Some batch) = batch == number
comes_of number None = false

-- a scan of those rows alone that come of that batch, before its first one
abbrev pub morsel_of : ScanAt → ℕ → ScanAt
morsel_of scan number = record scan {
  ahead = filter (λ (given : Option ℕ × Row). comes_of (batch_of scan number) given.0) scan.ahead;
  batches = (0, batch_of scan number) ∷ [];
  opened = [];
  given = 0;
  refused = None;
}

-- its rows
abbrev pub morsel_rows : ScanAt → ℕ → List Row
morsel_rows scan number = left (morsel_of scan number)

-- A scan that has not begun has so many morsels, one for each batch of the first place. Their rows,
-- in order, are its own.
pub record HasMorsels (scan : ScanAt) (count : ℕ) : Type 0 where
  pub each : count ≡ length (of_first scan.batches)
  pub ahead : scan.ahead
      ≡ flat_map (λ number. (morsel_of scan number).ahead) (range_with_len 0 count)
  pub rows : left scan ≡ flat_map (morsel_rows scan) (range_with_len 0 count)
  pub unopened : of_first scan.opened ≡ []
  pub given : scan.given ≡ 0
  pub refused : scan.refused ≡ None
