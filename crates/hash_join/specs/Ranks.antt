-- Inside: how many bits before a place are 1.
use Rattle.std.specs.Prelude.{◌≡◌, ◌≤◌, ◌<◌, ◌*◌, ℕ, Bool, List, length, get_or, take, count_by}

-- how many of the bits before a place are 1
abbrev pub rank_at : List Bool → ℕ → ℕ
rank_at bits place = count_by (λ bit. bit) (take place bits)

-- for each 64 bits it is known how many of those before them are 1
pub record AreCounts (bits : List Bool) (before : List ℕ) : Type 0 where
  pub all : length bits ≤ 64 * length before
  pub counts : (word : ℕ) → word < length before → get_or before word 0 ≡ rank_at bits (64 * word)
