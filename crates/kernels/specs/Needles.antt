-- Inside: a text that is looked for.
use Rattle.std.specs.Prelude.{◌≡◌, ◌+◌, ◌^◌, ℕ, min, List, length}
use Rattle.byteorder.specs.Endian.{little_from}
use Rattle.arrays.specs.Number.{AreBytes}

-- how many bytes the front of a text has: eight at most
abbrev pub front_len : List ℕ → ℕ
front_len text = min 8 (length text)

-- the front of a text as a number, and as many bytes of ones
pub record IsFront (text : List ℕ) (front mask : ℕ) : Type 0 where
  pub number : front ≡ little_from 0 (front_len text) text
  pub bytes : AreBytes text
  pub ones : mask + 1 ≡ 256 ^ front_len text
