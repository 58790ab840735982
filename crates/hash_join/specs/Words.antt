-- Inside: words of bits, of which each says whether a row passes.
use Rattle.std.specs.Prelude.{ℕ, zero, suc, ◌+◌, ◌/◌, ◌%◌, ◌==◌, Bool, List, [], ◌∷◌, cond, map}
use Rattle.std.specs.List.{range_with_len}
use Rattle.std.specs.Simd.Lanes.{mask_l}

-- a bit for each of so many rows from one on, the first lowest: 1 where it passes
abbrev pub passing_word : (ℕ → Bool) → ℕ → ℕ → ℕ
passing_word passes from count = mask_l (map passes (range_with_len from count))

-- of the lowest bits of a word, so many, the places of those that are 1, counted from a row on
unfoldable pub set_bits : ℕ → ℕ → ℕ → List ℕ
set_bits zero from word = []
set_bits (suc count) from word = cond (word % 2 == 1) (from ∷ set_bits count (from + 1) (word / 2))
    (set_bits count (from + 1) (word / 2))
