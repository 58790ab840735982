-- Places that rise.
use Rattle.std.specs.Prelude.{◌<◌, ℕ, List, length, get_or}

-- each is above those before it
abbrev pub AreRising : List ℕ → Type 0
AreRising places = (k j : ℕ) → k < j → j < length places → get_or places k 0 < get_or places j 0
