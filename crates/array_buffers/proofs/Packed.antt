-- Truth values packed in bytes, word by word.
use Rattle.std.proofs.Common.{◌≡◌, ℕ, zero, suc, ◌+◌, ◌-◌, ◌*◌, ◌/◌, ◌%◌, ◌^◌, ◌<◌, ◌≤◌, Bool, true, false, List, [], ◌∷◌, ◌++◌, length, map, take, drop, refl, sym, ap, ◌∙◌, arith}
use Rattle.std.specs.Int.{byte_at, bytes_low_first, to_le_bytes, w64, div_ceil}
use Rattle.std.specs.List.{range_with_len}
use Rattle.std.specs.Simd.Lanes.{mask_l}
use Rattle.std.proofs.Math.Nat.{div-div-eq-div-mul, pow-succ', mul_assoc, div-one}
use Rattle.std.proofs.lemmas.List.{drop-drop, drop-take, take-take, map-append, length-drop, length-take}
use Rattle.byteorder.proofs.Bytes.{take-bytes_low_first}
use Rattle.bitmap.proofs.Masks.{mask_room, range-append}
use Rattle.array_buffers.specs.ColumnBuffers.{bits_number, packed_bits}
use Rattle.arrays.proofs.Slices.{map_shifted}

-- one byte of packed bits
abbrev pub byte_of : List Bool → ℕ → ℕ
byte_of bits k = bits_number (take 8 (drop (8 * k) bits))

pub bits_mask : (bits : List Bool) → bits_number bits ≡ mask_l bits
bits_mask [] = refl
bits_mask (true ∷ bits) = ap (λ (n : ℕ). 1 + 2 * n) (bits_mask bits)
bits_mask (false ∷ bits) = ap (λ (n : ℕ). 0 + 2 * n) (bits_mask bits)

-- a number of bits is that of the first ones and that of the others above them
mask_split : (m : ℕ) (bits : List Bool) → mask_l bits ≡ mask_l (take m bits) + 2 ^ m * mask_l (drop m bits)
mask_split zero bits = omega arith
mask_split (suc m) [] = omega arith
mask_split (suc m) (bit ∷ bits) =
    let ih = mask_split m bits in
    let p : 2 ^ suc m * mask_l (drop m bits) ≡ 2 * (2 ^ m * mask_l (drop m bits)) = ap (λ (n : ℕ). n * mask_l (drop m bits)) (pow-succ' 2 m) ∙ mul_assoc 2 (2 ^ m) (mask_l (drop m bits)) in
    omega (arith, ih, p)

byte_at-pow : (j n : ℕ) → byte_at j n ≡ n / 256 ^ j % 256
byte_at-pow zero n = ap (λ (m : ℕ). m % 256) (sym (div-one n))
byte_at-pow (suc j) n = refl

-- a byte of the number is one of the packed bits
byte_is : (j : ℕ) (bits : List Bool) → byte_at j (mask_l bits) ≡ byte_of bits j
byte_is zero bits =
    let split = mask_split 8 bits in
    let low = mask_room (take 8 bits) 8 (omega (arith, length-take 8 bits)) in
    rw (bits_mask (take 8 bits)) (omega (arith, split, low))
byte_is (suc j) bits =
    let split = mask_split 8 bits in
    let low = mask_room (take 8 bits) 8 (omega (arith, length-take 8 bits)) in
    let rest : mask_l bits / 256 ≡ mask_l (drop 8 bits) = omega (arith, split, low) in
    let place : 8 + 8 * j ≡ 8 * suc j = omega arith in
    ap (λ (n : ℕ). mask_l bits / n % 256) (pow-succ' 256 j)
    ∙ ap (λ (n : ℕ). n % 256) (sym (div-div-eq-div-mul (mask_l bits) 256 (256 ^ j)))
    ∙ ap (λ (n : ℕ). n / 256 ^ j % 256) rest
    ∙ sym (byte_at-pow j (mask_l (drop 8 bits)))
    ∙ byte_is j (drop 8 bits)
    ∙ ap (λ (xs : List Bool). bits_number (take 8 xs)) (drop-drop (8 * j) 8 bits ∙ ap (λ (n : ℕ). drop n bits) place)

bytes_are : (n j : ℕ) (bits : List Bool) → bytes_low_first j n (mask_l bits) ≡ map (byte_of bits) (range_with_len j n)
bytes_are zero j bits = refl
bytes_are (suc n) j bits =
    let e : suc j ≡ j + 1 = omega arith in
    rw (byte_is j bits) (ap (λ (xs : List ℕ). byte_of bits j ∷ xs) (bytes_are n (suc j) bits ∙ ap (λ (a : ℕ). map (byte_of bits) (range_with_len a n)) e))

-- two functions that agree on numbers
pub map_same : {X : Type 0} (f g : ℕ → X) (first n : ℕ) → ((k : ℕ) → first ≤ k → k < first + n → f k ≡ g k) → map f (range_with_len first n) ≡ map g (range_with_len first n)
map_same f g first zero same = refl
map_same f g first (suc n) same =
    let ih = map_same f g (first + 1) n (λ k low high. same k (omega arith) (omega arith)) in
    rw (same first (omega arith) (omega arith), ih) refl

byte_in_front : (bits : List Bool) (m k : ℕ) → 8 * k + 8 ≤ m → byte_of bits k ≡ byte_of (take m bits) k
byte_in_front bits m k within =
    let e : 8 * k + (m - 8 * k) ≡ m = omega arith in
    ap bits_number (sym (ap (λ (n : ℕ). take 8 (drop (8 * k) (take n bits))) (sym e) ∙ ap (take 8) (drop-take (8 * k) (m - 8 * k) bits) ∙ take-take 8 (m - 8 * k) (drop (8 * k) bits) (omega arith)))

byte_behind : (bits : List Bool) (m k : ℕ) → byte_of (drop (8 * m) bits) k ≡ byte_of bits (m + k)
byte_behind bits m k =
    let e : 8 * m + 8 * k ≡ 8 * (m + k) = omega arith in
    ap (λ (xs : List Bool). bits_number (take 8 xs)) (drop-drop (8 * k) (8 * m) bits ∙ ap (λ (n : ℕ). drop n bits) e)

-- the bits of a word, and those after it
pub word_then : (bits : List Bool) → 64 ≤ length bits → packed_bits bits ≡ to_le_bytes w64 (mask_l (take 64 bits)) ++ packed_bits (drop 64 bits)
unfolding packed_bits
word_then bits long =
    let rest = div_ceil (length (drop 64 bits)) 8 in
    let all : div_ceil (length bits) 8 ≡ 8 + rest = omega (arith, length-drop 64 bits) in
    ap (λ (n : ℕ). map (byte_of bits) (range_with_len 0 n)) all
    ∙ ap (map (byte_of bits)) (range-append 0 8 rest)
    ∙ map-append (byte_of bits) (range_with_len 0 8) (range_with_len 8 rest)
    ∙ ap (λ (xs : List ℕ). xs ++ map (byte_of bits) (range_with_len 8 rest)) (map_same (byte_of bits) (byte_of (take 64 bits)) 0 8 (λ k low high. byte_in_front bits 64 k (omega arith)) ∙ sym (bytes_are 8 0 (take 64 bits)))
    ∙ ap (λ (xs : List ℕ). to_le_bytes w64 (mask_l (take 64 bits)) ++ xs) (sym (map_shifted (byte_of (drop 64 bits)) (byte_of bits) 8 (byte_behind bits 8) 0 rest))

-- fewer bits than those of a word
pub short_word_bytes : (bits : List Bool) → length bits < 64 → packed_bits bits ≡ take (div_ceil (length bits) 8) (to_le_bytes w64 (mask_l bits))
unfolding packed_bits
short_word_bytes bits short =
    sym (take-bytes_low_first 0 8 (div_ceil (length bits) 8) (mask_l bits) (omega arith) ∙ bytes_are (div_ceil (length bits) 8) 0 bits)
