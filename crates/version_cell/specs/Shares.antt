-- Inside: what is counted of seats.
use Rattle.std.specs.Prelude.{ℕ}

-- the shares of so many seats: the entries that were made through them, their asks, and the powers
-- of two of their numbers
pub record SharesAt : Type 0 where
  pub seats : ℕ
  pub entries : ℕ
  pub asks : ℕ
  pub numbers : ℕ

abbrev pub shares_at : ℕ → ℕ → ℕ → ℕ → SharesAt
shares_at seats entries asks numbers =
    record { seats = seats; entries = entries; asks = asks; numbers = numbers }

-- what shares are cut from: the number of the next seat, and how many are left
pub record CutterAt : Type 0 where
  pub next : ℕ
  pub left : ℕ

abbrev pub cutter_at : ℕ → ℕ → CutterAt
cutter_at next left = record { next = next; left = left }
