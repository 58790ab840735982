-- Inside: what is looked at in all offsets of texts at once.
use Rattle.std.specs.Prelude.{◌≡◌, ◌≤◌, ◌<◌, ℕ, ◌+◌, ◌-◌, ◌^◌, true, List, length, slice_range}
use Rattle.std.specs.Prelude.{IsCharBoundary}
use Rattle.std.specs.Str.{is_utf8}
use Rattle.arrays.specs.Number.{element_at}

-- no offset of `len` slots is below the one before it
abbrev pub OffsetsRise : List ℕ → ℕ → Type 0
OffsetsRise offsets len =
    (place : ℕ) → place < len → element_at 4 offsets place ≤ element_at 4 offsets (place + 1)

-- each offset lies from `first` to `last`
abbrev pub LieWithin : List ℕ → ℕ → ℕ → ℕ → Type 0
LieWithin offsets len first last = (place : ℕ) → place ≤ len →
    (first ≤ element_at 4 offsets place) × (element_at 4 offsets place ≤ last)

-- each offset, counted from `first` on, cuts `whole` before a character, or at its end
abbrev pub CutBetweenCharacters : List ℕ → ℕ → ℕ → List ℕ → Type 0
CutBetweenCharacters offsets len first whole =
    (place : ℕ) → place ≤ len → IsCharBoundary whole (element_at 4 offsets place - first)

-- the bytes of the slot at a place are cut in order, within the data, where an offset can name it,
-- and are UTF-8
pub record IsTextCut (offsets bytes : List ℕ) (place : ℕ) : Type 0 where
  pub ordered : element_at 4 offsets place ≤ element_at 4 offsets (place + 1)
  pub within : element_at 4 offsets (place + 1) ≤ length bytes
  pub short : element_at 4 offsets (place + 1) < 2 ^ 31
  pub text :
      is_utf8 (slice_range bytes (element_at 4 offsets place) (element_at 4 offsets (place + 1)))
      ≡ true
