-- One bit more after others.
use Rattle.std.proofs.Common.{◌≡◌, ℕ, suc, ◌+◌, ◌-◌, ◌*◌, ◌/◌, ◌%◌, ◌^◌, ◌<◌, ◌≤◌, ◌==◌, ◌≢◌, Bool, true, false, cond, List, [], ◌∷◌, ◌++◌, length, get_or, slice_index, refl, sym, ap, ◌∙◌, arith, inl, inr, get_or-set_same, get_or-set_other}
use Rattle.std.specs.Int.{bit_at}
use Rattle.std.proofs.Math.ListN.{set, length-set}
use Rattle.std.proofs.Math.ListN.{get_or-eq_default}
use Rattle.std.proofs.lemmas.Bool.{cases_lt}
use Rattle.std.proofs.lemmas.List.{same_lists, get_or-append-add, get_or_default, length-append}
use Rattle.std.proofs.lemmas.Nat.Bits.{bit_at_cat_low, bit_at_cat_high}
use Rattle.bitmap.specs.Bits.{bit_of, bits_of}
use Rattle.bitmap.specs.inside.Packing.{ArePacked}
use Rattle.std.proofs.Math.Nat.{pow-le-pow_right, pow-succ'}
use mir.Val.{bool_byte}
use Rattle.bitmap.proofs.Masks.{byte_cond, byte_small, length-bits_of, get_or-bits_of, bits_of-append, front_bits}

bit_zero : (b : Bool) → (bit_at (cond b 1 0) 0 == 1) ≡ b
bit_zero true = refl
bit_zero false = refl

-- a bit at its place in a byte
pub bit_up : (b : Bool) (s : ℕ) → s < 8 → bool_byte b * 2 ^ s % 256 ≡ cond b 1 0 * 2 ^ s
bit_up true s low = let few : s ≤ 7 = omega arith in let below : 2 ^ s ≤ 2 ^ 7 = pow-le-pow_right (omega arith) few in omega (arith, below)
bit_up false s low = omega arith

bit_small : (b : Bool) (s : ℕ) → cond b 1 0 * 2 ^ s ≤ 2 ^ s
bit_small true s = omega arith
bit_small false s = omega arith

-- bits that are told apart into the first ones and the last
last_bit : (old new : List ℕ) (len : ℕ) (b : Bool) → bits_of new 0 len ≡ bits_of old 0 len → bit_of new len ≡ b → bits_of new 0 (len + 1) ≡ bits_of old 0 len ++ b ∷ []
unfolding bits_of
last_bit old new len b front last =
    let z : 0 + len ≡ len = omega arith in
    bits_of-append new 0 len 1 ∙ ap (λ (r : List Bool). r ++ bits_of new (0 + len) 1) front
    ∙ ap (λ (p : ℕ). bits_of old 0 len ++ bits_of new p 1) z ∙ ap (λ (x : Bool). bits_of old 0 len ++ x ∷ []) last

-- the first bit of a new byte
pub new_byte : (bytes : List ℕ) (len byte : ℕ) (b : Bool) → ArePacked bytes len → len % 8 ≡ 0 → byte ≡ bool_byte b → bits_of (bytes ++ byte ∷ []) 0 (len + 1) ≡ bits_of bytes 0 len ++ b ∷ []
new_byte bytes len byte b had whole is =
    let at : len / 8 ≡ length bytes + 0 = omega (arith, had.count) in
    last_bit bytes (bytes ++ byte ∷ []) len b (front_bits bytes (byte ∷ []) len (omega (arith, had.count)))
    (ap (λ (k : ℕ). bit_at (slice_index (bytes ++ byte ∷ []) k) (len % 8) == 1) at
    ∙ ap (λ (x : ℕ). bit_at x (len % 8) == 1) (get_or-append-add bytes (byte ∷ []) 0 0 ∙ is ∙ byte_cond b)
    ∙ ap (λ (i : ℕ). bit_at (cond b 1 0) i == 1) whole ∙ bit_zero b)

-- a further bit of the last byte
pub same_byte : (bytes : List ℕ) (len byte : ℕ) (b : Bool) → ArePacked bytes len → len % 8 ≢ 0 → byte ≡ slice_index bytes (len / 8) + bool_byte b * 2 ^ (len % 8) % 256 →
    bits_of (set bytes (len / 8) byte) 0 (len + 1) ≡ bits_of bytes 0 len ++ b ∷ []
same_byte bytes len byte b had part is =
    let at = len / 8 in
    let s = len % 8 in
    let x = slice_index bytes at in
    let here : at < length bytes = omega (arith, had.count) in
    let joined : byte ≡ cond b 1 0 * 2 ^ s + x = omega (arith, is, bit_up b s (omega arith)) in
    let there : slice_index (set bytes at byte) at ≡ cond b 1 0 * 2 ^ s + x = get_or-set_same bytes at byte 0 here ∙ joined in
    last_bit bytes (set bytes at byte) len b
    (same_lists (bits_of (set bytes at byte) 0 len) (bits_of bytes 0 len) (length-bits_of (set bytes at byte) 0 len ∙ sym (length-bits_of bytes 0 len))
    (λ k d lt.
    let low : k < len = omega (arith, length-bits_of (set bytes at byte) 0 len) in
    let z : 0 + k ≡ k = omega arith in
    get_or-bits_of (set bytes at byte) 0 len k d low ∙ ap (bit_of (set bytes at byte)) z
    ∙ elim (cases_lt (k / 8) at) [
      | inl before ↦ ap (λ (y : ℕ). bit_at y (k % 8) == 1) (get_or-set_other bytes at (k / 8) byte 0 (omega arith))
      | inr inside ↦
          let e : k / 8 ≡ at = omega arith in
          let under : k % 8 < s = omega arith in
          ap (λ (j : ℕ). bit_at (slice_index (set bytes at byte) j) (k % 8) == 1) e
          ∙ ap (λ (y : ℕ). y == 1) (ap (λ (y : ℕ). bit_at y (k % 8)) there ∙ bit_at_cat_low (cond b 1 0) s x (k % 8) under)
          ∙ ap (λ (j : ℕ). bit_at (slice_index bytes j) (k % 8) == 1) (sym e)
    ]
    ∙ sym (get_or-bits_of bytes 0 len k d low ∙ ap (bit_of bytes) z)))
    (ap (λ (y : ℕ). y == 1) (ap (λ (y : ℕ). bit_at y s) there ∙ bit_at_cat_high (cond b 1 0) s x s had.clear (omega arith))
    ∙ (let z : s - s ≡ 0 = omega arith in ap (λ (i : ℕ). bit_at (cond b 1 0) i == 1) z) ∙ bit_zero b)

-- the last byte, where it is not full
pub byte_here : (bytes : List ℕ) (len x : ℕ) → ArePacked bytes len → len % 8 ≢ 0 → x ≡ get_or bytes (len / 8) x → x ≡ slice_index bytes (len / 8)
byte_here bytes len x had part is = is ∙ get_or_default bytes (len / 8) x 0 (omega (arith, had.count))

-- a byte with one more bit has room
pub bit_fits : (bytes : List ℕ) (len : ℕ) (b : Bool) → ArePacked bytes len → slice_index bytes (len / 8) + bool_byte b * 2 ^ (len % 8) % 256 < 256
bit_fits bytes len b had =
    let few : len % 8 ≤ 7 = omega arith in
    let below : 2 ^ (len % 8) ≤ 2 ^ 7 = pow-le-pow_right (omega arith) few in
    omega (arith, had.clear, bit_up b (len % 8) (omega arith), bit_small b (len % 8), below)

-- and the bits stay packed
pub packed_new : (bytes : List ℕ) (len next byte : ℕ) (b : Bool) → ArePacked bytes len → next ≡ len + 1 → next < 2 ^ 64 → len % 8 ≡ 0 → byte ≡ bool_byte b → ArePacked (bytes ++ byte ∷ []) next
packed_new bytes len next byte b had more small whole is =
    let at : next / 8 ≡ length bytes + 0 = omega (arith, had.count) in
    let one : next % 8 ≡ 1 = omega arith in
    let last : slice_index (bytes ++ byte ∷ []) (next / 8) ≡ byte = ap (slice_index (bytes ++ byte ∷ [])) at ∙ get_or-append-add bytes (byte ∷ []) 0 0 in
    record {
      count = omega (arith, length-append bytes (byte ∷ []), had.count);
      clear = rw (one, last) (omega (arith, is, byte_small b));
      small = small;
    }

pub packed_same : (bytes : List ℕ) (len next byte : ℕ) (b : Bool) → ArePacked bytes len → next ≡ len + 1 → next < 2 ^ 64 → len % 8 ≢ 0 → byte ≡ slice_index bytes (len / 8) + bool_byte b * 2 ^ (len % 8) % 256 →
    ArePacked (set bytes (len / 8) byte) next
packed_same bytes len next byte b had more small part is =
    let here : len / 8 < length bytes = omega (arith, had.count) in
    record {
      count = length-set bytes (len / 8) byte ∙ omega (arith, had.count);
      clear = elim (cases_lt (len % 8) 7) [
        | inl inside ↦
            let at : next / 8 ≡ len / 8 = omega arith in
            let place : next % 8 ≡ suc (len % 8) = omega arith in
            let twice = pow-succ' 2 (len % 8) in
            rw (at, place, get_or-set_same bytes (len / 8) byte 0 here) (omega (arith, twice, is, had.clear, bit_up b (len % 8) (omega arith), bit_small b (len % 8)))
        | inr last ↦
            let past : length (set bytes (len / 8) byte) ≤ next / 8 = omega (arith, length-set bytes (len / 8) byte, had.count) in
            let none : next % 8 ≡ 0 = omega arith in
            rw (get_or-eq_default (set bytes (len / 8) byte) 0 past, none) (omega arith)
      ];
      small = small;
    }
