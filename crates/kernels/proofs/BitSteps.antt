-- Single bits that are set and cleared.
use Rattle.std.proofs.Common.{◌≡◌, ℕ, ◌*◌, ◌%◌, ◌^◌, ◌<◌, ◌==◌, Bool, true, false, ◌||◌, refl, ap, ◌∙◌, arith}
use mir.Val.{bool_byte}
use Rattle.std.specs.Int.{w64, bit_not}
use Rattle.std.specs.Int.Bits.{bit_and}
use Rattle.std.specs.Int.RustNames.{bit_or}
use Rattle.std.proofs.lemmas.Nat.Bits.{bit_at_set_same, bit_at_set_other, bit_at_clear_same, bit_at_clear_other}
use Rattle.kernels.specs.Words.{bit}
use Rattle.kernels.proofs.Bits.{or_bit, bit_of_none}

or_false : (b : Bool) → (b || false) ≡ b
or_false true = refl
or_false false = refl

no_shift : (k : ℕ) → bool_byte false * 2 ^ k % 2 ^ 64 ≡ 0
no_shift k = omega arith

-- a bit is set where a test passes
pub put_same : (n k : ℕ) (b : Bool) → k < 64 → bit n k ≡ false → bit (bit_or n (bool_byte b * 2 ^ k % 2 ^ 64)) k ≡ b
put_same n k true lt off = ap (λ x. x == 1) (bit_at_set_same w64 n k lt)
put_same n k false lt off =
    ap (λ m. bit (bit_or n m) k) (no_shift k) ∙ or_bit n 0 k ∙ ap (λ c. bit n k || c) (bit_of_none k) ∙ or_false (bit n k) ∙ off

pub put_other : (n k i : ℕ) (b : Bool) → k < 64 → (i ≡ k → ⊥) → bit (bit_or n (bool_byte b * 2 ^ k % 2 ^ 64)) i ≡ bit n i
put_other n k i true lt other = ap (λ x. x == 1) (bit_at_set_other w64 n k lt i other)
put_other n k i false lt other = ap (λ m. bit (bit_or n m) i) (no_shift k) ∙ or_bit n 0 i ∙ ap (λ c. bit n i || c) (bit_of_none i) ∙ or_false (bit n i)

pub clear_same : (n k : ℕ) → k < 64 → bit (bit_and n (bit_not w64 (1 * 2 ^ k % 2 ^ 64))) k ≡ false
clear_same n k lt = ap (λ x. x == 1) (bit_at_clear_same w64 n k lt)

pub clear_other : (n k i : ℕ) → k < 64 → i < 64 → (i ≡ k → ⊥) → bit (bit_and n (bit_not w64 (1 * 2 ^ k % 2 ^ 64))) i ≡ bit n i
clear_other n k i lt inside other = ap (λ x. x == 1) (bit_at_clear_other w64 n k lt i inside other)
