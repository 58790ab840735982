-- Inside: places, as the indices of slots are kept.
use Rattle.std.specs.Prelude.{◌≡◌, ◌<◌, ◌/◌, ℕ, Bool, List, length, map, get_or, Option, None}
use Rattle.std.specs.Prelude.{is_some, unwrap_or}
use Rattle.std.specs.List.{range_with_len}
use Rattle.arrays.specs.Number.{element_at}
use Rattle.arrays.specs.Validity.{is_valid, IsLong}

-- the numbers of 32 bits that stand in these bytes, four bytes each, the lowest first
unfoldable pub numbers_in : List ℕ → List ℕ
numbers_in bytes = map (λ k. element_at 4 bytes k) (range_with_len 0 (length bytes / 4))

-- the bytes are those of the places, four bytes each, and 0 where there is none
pub record ArePacked (bytes : List ℕ) (places : List (Option ℕ)) : Type 0 where
  pub long : length places ≡ length bytes / 4
  pub each : (k : ℕ) → k < length places → element_at 4 bytes k ≡ unwrap_or (get_or places k None) 0

-- a slot is valid where it has a place
pub record AreValidWhereSome (validity : Option (List Bool))
    (places : List (Option ℕ)) : Type 0 where
  pub long : IsLong validity (length places)
  pub each : (k : ℕ) → k < length places → is_valid validity k ≡ is_some (get_or places k None)
