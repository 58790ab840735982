-- The bits of words that say which slots are valid.
use Rattle.std.proofs.Common.{◌≡◌, ℕ, ◌+◌, ◌<◌, ◌==◌, Bool, true, false, cond, List, get_or, take, drop, refl, ap, ◌∙◌}
use Rattle.std.specs.Int.{bit_at}
use Rattle.std.specs.Simd.Lanes.{mask_l}
use Rattle.std.proofs.lemmas.List.{get_or-take, get_or-drop}
use Rattle.std.proofs.lemmas.Nat.Bits.{bit_at_ones}
use Rattle.std.proofs.lemmas.Simd.{bit_mask_l}

-- each bit of the greatest word is 1
pub bit_of_all : (row : ℕ) → row < 64 → (bit_at 18446744073709551615 row == 1) ≡ true
bit_of_all row lt = ap (λ x. x == 1) (bit_at_ones 64 row lt)

back : (b : Bool) → (cond b 1 0 == 1) ≡ b
back true = refl
back false = refl

-- a bit of a word of truth values
pub bit_of_taken : (bits : List Bool) (from row : ℕ) → row < 64 → (bit_at (mask_l (take 64 (drop from bits))) row == 1) ≡ get_or bits (from + row) false
bit_of_taken bits from row lt =
    ap (λ x. x == 1) (bit_mask_l (take 64 (drop from bits)) row) ∙ back (get_or (take 64 (drop from bits)) row false)
    ∙ get_or-take 64 (drop from bits) row false lt ∙ get_or-drop from bits row false
