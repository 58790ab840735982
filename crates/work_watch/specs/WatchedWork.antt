-- What who watches was told of.
use Rattle.std.specs.Prelude.{◌≤◌, ℕ}

-- who watches was told of at least so many rows; `told` is the watch's own relation
abbrev pub ToldAtLeast : {W : Type 0} → (ℕ → W → W → Type 0) → ℕ → W → W → Type 0
ToldAtLeast told rows old new = (count : ℕ) × (rows ≤ count) × told count old new
