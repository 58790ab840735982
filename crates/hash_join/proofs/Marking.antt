-- Bits of numbers that are marked: the one after them stays 0.
use Rattle.std.proofs.Common.{◌≡◌, ◌≢◌, ◌<◌, ◌*◌, ◌/◌, ◌%◌, ◌^◌, ◌==◌, ℕ, false, List, length, get_or, inl, inr, sym, ap, ◌∙◌, arith}
use Rattle.std.specs.Int.{bit_at, w8}
use Rattle.std.specs.Int.RustNames.{bit_or}
use Rattle.std.proofs.Math.ListN.{set}
use Rattle.std.proofs.lemmas.Bool.{cases_lt}
use Rattle.std.proofs.lemmas.List.{get_or-set_same, get_or-set_other}
use Rattle.std.proofs.lemmas.Nat.Bits.{bit_at_set_other}
use Rattle.bitmap.specs.Bits.{bit_of, bits_of}
use Rattle.bitmap.proofs.Masks.{get_or-bits_of}

-- a bit that is set leaves another as it was
pub marked_other : (bytes : List ℕ) (place other byte : ℕ) → place / 8 < length bytes → place ≢ other → byte ≡ get_or bytes (place / 8) 0 →
    bit_of (set bytes (place / 8) (bit_or byte (1 * 2 ^ (place % 8) % 2 ^ 8))) other ≡ bit_of bytes other
marked_other bytes place other byte there differ is =
    ap (λ (x : ℕ). x == 1) (elim (cases_lt (other / 8) (place / 8)) [
      | inl before ↦ apart (λ e. omega (arith, e, before))
      | inr from ↦ elim (cases_lt (place / 8) (other / 8)) [
        | inl behind ↦ apart (λ e. omega (arith, e, behind))
        | inr here ↦ together (omega (arith, from, here))
      ]
    ])
  where
    new : ℕ
    new = bit_or byte (1 * 2 ^ (place % 8) % 2 ^ 8)

    apart : other / 8 ≢ place / 8 → bit_at (get_or (set bytes (place / 8) new) (other / 8) 0) (other % 8) ≡ bit_at (get_or bytes (other / 8) 0) (other % 8)
    apart ne = ap (λ (x : ℕ). bit_at x (other % 8)) (get_or-set_other bytes (place / 8) (other / 8) new 0 ne)

    together : other / 8 ≡ place / 8 → bit_at (get_or (set bytes (place / 8) new) (other / 8) 0) (other % 8) ≡ bit_at (get_or bytes (other / 8) 0) (other % 8)
    together e =
        let low : place % 8 < 8 = omega arith in
        let ne : other % 8 ≢ place % 8 = λ same. differ (omega (arith, e, same)) in
        ap (λ (k : ℕ). bit_at (get_or (set bytes (place / 8) new) k 0) (other % 8)) e
        ∙ ap (λ (x : ℕ). bit_at x (other % 8)) (get_or-set_same bytes (place / 8) new 0 there)
        ∙ bit_at_set_other w8 byte (place % 8) low (other % 8) ne
        ∙ ap (λ (x : ℕ). bit_at x (other % 8)) (is ∙ ap (λ (k : ℕ). get_or bytes k 0) (sym e))

-- the bit after the others is one of the list
pub last_bit : (bytes : List ℕ) (len count : ℕ) → count < len → bit_of bytes count ≡ false → get_or (bits_of bytes 0 len) count false ≡ false
last_bit bytes len count there none = get_or-bits_of bytes 0 len count false there ∙ ap (bit_of bytes) (omega arith) ∙ none
