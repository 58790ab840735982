-- Which codes a set has.
use Rattle.std.specs.Prelude.{◌≡◌, ◌%◌, ℕ, Bool, true, false, List, get_or, slice_index}

-- the one that came last of its remainder is this one
abbrev pub HasLast : List ℕ → ℕ → Type 0
HasLast codes code = slice_index codes (code % 2048) ≡ code

-- the code is marked
abbrev pub HasMark : List Bool → ℕ → Type 0
HasMark marks code = get_or marks code false ≡ true

-- the code stands at a place that is marked
abbrev pub HasSorted : List ℕ → List Bool → ℕ → Type 0
HasSorted codes marks code = (place : ℕ) × (slice_index codes place ≡ code) × HasMark marks place
