-- Inside: indices that lead to a place.
use Rattle.std.specs.Prelude.{◌<◌, ℕ, ℤ, pos, negsuc}

-- the index is one of `count` places
abbrev pub IsPlaced : ℕ → ℤ → Type 0
IsPlaced count (pos index) = index < count
IsPlaced count (negsuc index) = ⊥
