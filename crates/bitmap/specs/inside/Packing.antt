-- Inside: how bits are kept while they are put one after another.
use Rattle.std.specs.Prelude.{◌≡◌, ◌<◌, ◌/◌, ◌%◌, ◌^◌, ◌+◌, ℕ, List, length, slice_index}

-- so many bits, no byte more than they need, and zeros after the last
pub record ArePacked (bytes : List ℕ) (len : ℕ) : Type 0 where
  pub count : length bytes ≡ (len + 7) / 8
  pub clear : slice_index bytes (len / 8) < 2 ^ (len % 8)
  pub small : len < 2 ^ 64
