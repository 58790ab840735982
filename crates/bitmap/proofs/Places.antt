-- Words that are cut short, bytes past the end, and bits at places.
use Rattle.std.proofs.Common.{◌≡◌, ℕ, zero, suc, ◌+◌, ◌*◌, ◌%◌, ◌^◌, ◌<◌, ◌≤◌, Bool, false, cond, List, [], ◌∷◌, ◌++◌, length, map, get_or, slice_index, take, drop, refl, sym, ap, ◌∙◌, arith}
use Rattle.std.specs.Int.{bit_at, to_le_bytes, w64}
use Rattle.std.specs.Simd.Lanes.{mask_l}
use Rattle.std.proofs.lemmas.List.{map-append, length-map, length-take, length-drop}
use Rattle.std.proofs.Math.Seq.{take-add}
use Rattle.std.proofs.lemmas.Nat.{pow_pos}
use Rattle.std.proofs.lemmas.Nat.Bits.{bit_at_above}
use Rattle.std.proofs.lemmas.Simd.{bit_mask_l}
use Rattle.std.proofs.Math.Nat.{mod-lt, pow-le-pow_right}
use Rattle.std.proofs.Math.ListN.{get_or-eq_default}
use Rattle.byteorder.specs.Endian.{little_from}
use Rattle.byteorder.specs.Numbers.{little_from-lt}
use Rattle.bitmap.specs.Bits.{bits_of}
use Rattle.bitmap.proofs.Masks.{length-bits_of, get_or-bits_of, word_is, low_bits, bits_of-append, front_bits, last_bits}

-- past the end stand zeros
little_past : (p n : ℕ) (xs : List ℕ) → length xs ≤ p → little_from p n xs ≡ 0
little_past p zero xs past = refl
little_past p (suc n) xs past =
    let here : slice_index xs p ≡ 0 = get_or-eq_default xs 0 past in
    let rest = little_past (suc p) n xs (omega arith) in
    omega (arith, here, rest)

pub little_end : (p n k : ℕ) (xs : List ℕ) → n ≤ k → length xs ≤ p + n → little_from p n xs ≡ little_from p k xs
little_end p zero k xs le past = sym (little_past p k xs (omega arith))
little_end p (suc n) zero xs le past = absurd (omega arith)
little_end p (suc n) (suc k) xs le past =
    let rest = little_end (suc p) n k xs (omega arith) (omega arith) in
    omega (arith, rest)

-- a number of fewer than eight bytes has room for one more
pub little_room : (p n : ℕ) (xs : List ℕ) → ((k : ℕ) → slice_index xs k < 256) → n ≤ 7 → little_from p n xs < 2 ^ 56
little_room p n xs bytes few =
    let below = little_from-lt p n xs bytes in
    let most : 256 ^ n ≤ 256 ^ 7 = pow-le-pow_right (omega arith) few in
    omega (arith, below, most)

-- the first bits of a word
pub short : (word at len : ℕ) (xs : List ℕ) → len ≤ 64 → word ≡ mask_l (bits_of xs at 64) → word % 2 ^ len ≡ mask_l (bits_of xs at len)
short word at len xs le is =
    word_is len (word % 2 ^ len) (bits_of xs at len) (length-bits_of xs at len)
    (λ i lt.
    low_bits word len i lt ∙ ap (λ (n : ℕ). bit_at n i) is ∙ bit_mask_l (bits_of xs at 64) i
    ∙ ap (λ (b : Bool). cond b 1 0) (get_or-bits_of xs at 64 i false (omega arith) ∙ sym (get_or-bits_of xs at len i false lt)))
    (λ i high. bit_at_above (word % 2 ^ len) len i (mod-lt word (pow_pos len)) high)

-- some bits and those of one word more
pub bits_more : (f : ℕ → Bool) (xs places : List ℕ) (m n w : ℕ) → m ≡ 8 * length xs → n ≤ 64 → w < 2 ^ 64 → m + n ≤ length places →
    bits_of xs 0 m ≡ map f (take m places) → w ≡ mask_l (map f (take n (drop m places))) →
    bits_of (xs ++ to_le_bytes w64 w) 0 (m + n) ≡ map f (take (m + n) places)
bits_more f xs places m n w at le fits room had is =
    let ms = map f (take n (drop m places)) in
    let long : length ms ≡ n = length-map (take n (drop m places)) f ∙ omega (arith, length-take n (drop m places), length-drop m places) in
    let z : 0 + m ≡ 8 * length xs = omega arith in
    bits_of-append (xs ++ to_le_bytes w64 w) 0 m n
    ∙ ap (λ (r : List Bool). r ++ bits_of (xs ++ to_le_bytes w64 w) (0 + m) n) (front_bits xs (to_le_bytes w64 w) m (omega arith) ∙ had)
    ∙ ap (λ (p : ℕ). map f (take m places) ++ bits_of (xs ++ to_le_bytes w64 w) p n) z
    ∙ ap (λ (r : List Bool). map f (take m places) ++ r) (last_bits xs w n ms fits le long is)
    ∙ sym (ap (map f) (take-add m n places) ∙ map-append f (take m places) (take n (drop m places)))

pub no_places : (f : ℕ → Bool) (xs places : List ℕ) → bits_of xs 0 0 ≡ map f (take 0 places)
unfolding bits_of
no_places f xs places = refl

-- functions that agree on what a list has
pub maps_same : {X : Type 0} (f g : ℕ → X) (places : List ℕ) → ((k : ℕ) → k < length places → f (get_or places k 0) ≡ g (get_or places k 0)) → map f places ≡ map g places
maps_same f g [] same = refl
maps_same f g (place ∷ places) same =
    rw (same 0 (omega arith), maps_same f g places (λ k low. same (suc k) (omega arith))) refl
