-- Packed bits, as Arrow's columnar format has them, as a list of truth values.
use Rattle.std.specs.Prelude.{ℕ, ◌+◌, ◌*◌, ◌/◌, ◌%◌, ◌≤◌, ◌<◌, ◌^◌, ◌==◌, Bool, List, length, map}
use Rattle.std.specs.Prelude.{slice_index}
use Rattle.std.specs.Int.{bit_at}
use Rattle.std.specs.List.{range_with_len}

-- bit j of packed bits, the least significant of each byte first
abbrev pub bit_of : List ℕ → ℕ → Bool
bit_of bytes j = bit_at (slice_index bytes (j / 8)) (j % 8) == 1

-- the `len` bits from bit `first` on
unfoldable pub bits_of : List ℕ → ℕ → ℕ → List Bool
bits_of bytes first len = map (bit_of bytes) (range_with_len first len)

-- the bytes hold these bits, and each of them has a place that a machine's word can name
pub record IsRoomy (bytes : List ℕ) (first len : ℕ) : Type 0 where
  pub within : first + len ≤ 8 * length bytes
  pub small : first + len < 2 ^ 64
