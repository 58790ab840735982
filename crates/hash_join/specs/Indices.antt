-- Inside: numbers that are counted from one of them on.
use Rattle.std.specs.Prelude.{ℕ, ℤ, pos, negsuc, min}

-- the place of a number, counted from the first of so many; after the last of them where it is none
-- of them
abbrev pub index_among : ℤ → ℕ → ℕ
index_among (pos index) count = min index count
index_among (negsuc index) count = count
