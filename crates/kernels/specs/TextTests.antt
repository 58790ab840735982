-- Inside: texts that offsets cut, and which of them are a given one.
use Rattle.std.specs.Prelude.{◌≤◌, ◌<◌, ℕ, ◌+◌, ◌-◌, ◌*◌, ◌%◌, ◌^◌, ◌==◌, Bool, List, length}
use Rattle.std.specs.Prelude.{slice_range}
use Rattle.std.specs.Str.{bytes_eq}
use Rattle.arrays.specs.Number.{element_at}

-- the bytes from an offset up to, not with, the one after it
abbrev pub cut_at : List ℕ → List ℕ → ℕ → List ℕ
cut_at offsets bytes place =
    slice_range bytes (element_at 4 offsets place) (element_at 4 offsets (place + 1))

-- whether they are a text
abbrev pub is_text_at : List ℕ → List ℕ → List ℕ → ℕ → Bool
is_text_at text offsets bytes place = bytes_eq (cut_at offsets bytes place) text

-- so many texts are cut: no offset is above the one after it, nor past the end of the data, nor
-- negative
pub record AreCut (offsets bytes : List ℕ) (count : ℕ) : Type 0 where
  pub room : 0 < count → 4 * (count + 1) ≤ length offsets
  pub rise : (place : ℕ) → place < count →
      element_at 4 offsets place ≤ element_at 4 offsets (place + 1)
  pub within : (place : ℕ) → place < count → element_at 4 offsets (place + 1) ≤ length bytes
  pub short : (place : ℕ) → place < count → element_at 4 offsets (place + 1) < 2 ^ 31

-- whether an offset is so far from the one after it, in numbers of 32 bits
abbrev pub is_far : ℕ → List ℕ → ℕ → Bool
is_far far offsets place =
    (element_at 4 offsets (place + 1) + (2 ^ 32 - element_at 4 offsets place)) % 2 ^ 32 == far
