-- Inside: records of one length, whose fields stand one after another.
use Rattle.std.specs.Prelude.{◌≡◌, ◌<◌, ℕ, ◌+◌, ◌*◌, List, [], length, get_or}

-- how many fields each record has, how many records there are, and all their fields
pub record ChunkAt : Type 0 where
  pub width : ℕ
  pub rows : ℕ
  pub fields : List (List ℕ)

-- a field of a record
abbrev pub field_in : ChunkAt → ℕ → ℕ → List ℕ
field_in chunk row column = get_or chunk.fields (chunk.width * row + column) []

-- the chunk is these records
pub record Holds (chunk : ChunkAt) (records : List (List (List ℕ))) : Type 0 where
  pub full : length chunk.fields ≡ chunk.width * chunk.rows
  pub count : length records ≡ chunk.rows
  pub long : (k : ℕ) → k < chunk.rows → length (get_or records k []) ≡ chunk.width
  pub each : (k j : ℕ) → k < chunk.rows → j < chunk.width →
      get_or (get_or records k []) j [] ≡ field_in chunk k j
