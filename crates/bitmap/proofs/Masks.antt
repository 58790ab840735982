-- Words of bits, as `mask_l` of the bits that they show.
use Rattle.std.proofs.Common.{◌≡◌, ℕ, zero, suc, ◌+◌, ◌-◌, ◌*◌, ◌/◌, ◌%◌, ◌^◌, ◌<◌, ◌≤◌, ◌==◌, Bool, true, false, not, ◌&&◌, ◌||◌, cond, List, [], ◌∷◌, ◌++◌, length, map, get_or, slice_index, take, drop, ◌≢◌, count_by, min, max, inl, inr, refl, sym, ap, ◌∙◌, arith}
use Rattle.std.specs.Int.{bit_at}
use Rattle.std.specs.Int.Bits.{bit_and}
use Rattle.std.specs.Int.RustNames.{bit_or, bit_xor, count_ones}
use Rattle.std.specs.List.{range_with_len}
use Rattle.std.specs.Simd.Lanes.{mask_l, zip2}
use Rattle.std.proofs.lemmas.Bool.{cases_lt}
use Rattle.std.proofs.lemmas.List.{same_lists, map-append, get_or-drop, append-nil, get_or-append-add, get_or_default}
use Rattle.std.proofs.lemmas.List.FromFn.{length-map-range_with_len, get_or-map-range_with_len, take-map-range_with_len}
use Rattle.std.proofs.Math.Seq.{drop-append_seam}
use Rattle.std.proofs.lemmas.Nat.Bits.{bit_at_cat_low, bit_at_cat_high, same_from_bits, bit_at_and, bit_at_or, bit_at_xor, bit_at_above, bit_at-zero, bit_at-lt}
use Rattle.std.proofs.lemmas.Simd.{bit_mask_l, mask_l-lt, length-zip2, ones-mask_l}
use Rattle.std.proofs.lemmas.Nat.{pow_pos, pow-add}
use Rattle.std.proofs.lemmas.List.Sums.{sum_by-append, count_by-le-length}
use Rattle.std.proofs.Math.Nat.{div-add-mod', div-div-eq-div-mul, mod-lt, pow-le-pow_right}
use Rattle.std.proofs.Math.ListN.{get_or-eq_default, get_or-append}
use Rattle.byteorder.specs.Endian.{little_from}
use Rattle.byteorder.specs.Numbers.{little_from-take, little_number-reads_back}
use Rattle.std.specs.Int.{to_le_bytes, w64, bytes_low_first}
use mir.Val.{bool_byte}
use Rattle.bitmap.specs.Bits.{bit_of, bits_of}

-- bit i of a number of n bytes is a bit of one of them
pub bit_little : (n p i : ℕ) (xs : List ℕ) → ((k : ℕ) → slice_index xs k < 256) → i < 8 * n → bit_at (little_from p n xs) i ≡ bit_at (slice_index xs (p + i / 8)) (i % 8)
bit_little zero p i xs h lt = absurd (omega arith)
bit_little (suc n) p i xs h lt =
    let x = slice_index xs p in
    let r = little_from (suc p) n xs in
    let e : x + 256 * r ≡ r * 2 ^ 8 + x = omega arith in
    let small : x < 2 ^ 8 = h p in
    elim (cases_lt i 8) [
      | inl low ↦
          let a : p + i / 8 ≡ p = omega arith in
          let b : i % 8 ≡ i = omega arith in
          rw (e, a, b) (bit_at_cat_low r 8 x i low)
      | inr high ↦
          let a : suc p + (i - 8) / 8 ≡ p + i / 8 = omega arith in
          let b : (i - 8) % 8 ≡ i % 8 = omega arith in
          rw (e, ← a, ← b) (bit_at_cat_high r 8 x i small high ∙ bit_little n (suc p) (i - 8) xs h (omega arith))
    ]

pub length-bits_of : (bytes : List ℕ) (first len : ℕ) → length (bits_of bytes first len) ≡ len
unfolding bits_of
length-bits_of bytes first len = length-map-range_with_len (bit_of bytes) first len

pub get_or-bits_of : (bytes : List ℕ) (first len i : ℕ) (d : Bool) → i < len → get_or (bits_of bytes first len) i d ≡ bit_of bytes (first + i)
unfolding bits_of
get_or-bits_of bytes first len i d lt = get_or-map-range_with_len (bit_of bytes) first len i (first + i) d lt refl

-- a word whose bits are known
pub word_is : (k n : ℕ) (ms : List Bool) → length ms ≡ k → ((i : ℕ) → i < k → bit_at n i ≡ cond (get_or ms i false) 1 0) → ((i : ℕ) → k ≤ i → bit_at n i ≡ 0) → n ≡ mask_l ms
word_is k n ms len bits above =
    same_from_bits n (mask_l ms) (λ i. elim (cases_lt i k) [
      | inl h ↦ bits i h ∙ sym (bit_mask_l ms i)
      | inr h ↦ above i h ∙ sym (bit_mask_l ms i ∙ ap (λ b. cond b 1 0) (get_or-eq_default ms false (omega (arith, len))))
    ])

pub bool_of : (x : ℕ) → x < 2 → x ≡ cond (x == 1) 1 0
bool_of zero h = refl
bool_of (suc zero) h = refl
bool_of (suc (suc x)) h = absurd (omega arith)

-- bits of a word in two parts
pub low_bits : (x k i : ℕ) → i < k → bit_at (x % 2 ^ k) i ≡ bit_at x i
low_bits x k i lt = let e : x / 2 ^ k * 2 ^ k + x % 2 ^ k ≡ x = div-add-mod' x (2 ^ k) in sym (bit_at_cat_low (x / 2 ^ k) k (x % 2 ^ k) i lt) ∙ ap (λ y. bit_at y i) e

pub down_bits : (x s i : ℕ) → bit_at (x / 2 ^ s) i ≡ bit_at x (s + i)
down_bits x s i = ap (λ y. y % 2) (div-div-eq-div-mul x (2 ^ s) (2 ^ i) ∙ ap (λ y. x / y) (sym (pow-add 2 s i)))

up_low : (x t i : ℕ) → i < t → bit_at (x * 2 ^ t) i ≡ 0
up_low x t i lt = let e : x * 2 ^ t + 0 ≡ x * 2 ^ t = omega arith in ap (λ y. bit_at y i) (sym e) ∙ bit_at_cat_low x t 0 i lt ∙ bit_at-zero i

up_high : (x t i : ℕ) → t ≤ i → bit_at (x * 2 ^ t) i ≡ bit_at x (i - t)
up_high x t i le = let e : x * 2 ^ t + 0 ≡ x * 2 ^ t = omega arith in ap (λ y. bit_at y i) (sym e) ∙ bit_at_cat_high x t 0 i (pow_pos t) le

max_left : (a b c : ℕ) → a ≡ c → b ≡ 0 → max a b ≡ c
max_left a b c e f = omega arith

max_right : (a b c : ℕ) → a ≡ 0 → b ≡ c → max a b ≡ c
max_right a b c e f = omega arith

-- a word read across two bytes' ends
pub across : (at low high : ℕ) (xs : List ℕ) → ((k : ℕ) → slice_index xs k < 256) → low < 2 ^ 64 → low ≡ little_from (at / 8) 8 xs → high ≡ slice_index xs (at / 8 + 8) → at % 8 ≢ 0 →
    bit_or (low / 2 ^ (at % 8)) (high * 2 ^ (64 - at % 8) % 2 ^ 64) ≡ mask_l (bits_of xs at 64)
across at low high xs h fits is_low is_high shifted =
    let s = at % 8 in
    let t = 64 - s in
    word_is 64 (bit_or (low / 2 ^ s) (high * 2 ^ t % 2 ^ 64)) (bits_of xs at 64) (length-bits_of xs at 64)
    (λ i lt.
    let shown : cond (get_or (bits_of xs at 64) i false) 1 0 ≡ bit_at (slice_index xs ((at + i) / 8)) ((at + i) % 8) =
    ap (λ b. cond b 1 0) (get_or-bits_of xs at 64 i false lt) ∙ sym (bool_of (bit_at (slice_index xs ((at + i) / 8)) ((at + i) % 8)) (bit_at-lt (slice_index xs ((at + i) / 8)) ((at + i) % 8))) in
    bit_at_or (low / 2 ^ s) (high * 2 ^ t % 2 ^ 64) i ∙ elim (cases_lt (s + i) 64) [
      | inl inside ↦
          let a : at / 8 + (s + i) / 8 ≡ (at + i) / 8 = omega arith in
          let b : (s + i) % 8 ≡ (at + i) % 8 = omega arith in
          max_left _ _ _ (down_bits low s i ∙ ap (λ y. bit_at y (s + i)) is_low ∙ bit_little 8 (at / 8) (s + i) xs h inside ∙ rw (a, b) (sym shown))
          (low_bits (high * 2 ^ t) 64 i lt ∙ up_low high t i (omega arith))
      | inr outside ↦
          let a : at / 8 + 8 ≡ (at + i) / 8 = omega arith in
          let b : i - t ≡ (at + i) % 8 = omega arith in
          max_right _ _ _ (down_bits low s i ∙ bit_at_above low 64 (s + i) fits outside)
          (low_bits (high * 2 ^ t) 64 i lt ∙ up_high high t i (omega arith) ∙ rw (is_high, a, b) (sym shown))
    ])
    (λ i le. bit_at_or (low / 2 ^ s) (high * 2 ^ t % 2 ^ 64) i ∙ max_left _ _ _ (down_bits low s i ∙ bit_at_above low 64 (s + i) fits (omega arith))
    (bit_at_above (high * 2 ^ t % 2 ^ 64) 64 i (mod-lt (high * 2 ^ t) (pow_pos 64)) le))

-- a word at the start of a byte
pub at_start : (at low : ℕ) (xs : List ℕ) → ((k : ℕ) → slice_index xs k < 256) → low < 2 ^ 64 → low ≡ little_from (at / 8) 8 xs → at % 8 ≡ 0 → low ≡ mask_l (bits_of xs at 64)
at_start at low xs h fits is_low whole =
    word_is 64 low (bits_of xs at 64) (length-bits_of xs at 64)
    (λ i lt.
    let shown : cond (get_or (bits_of xs at 64) i false) 1 0 ≡ bit_at (slice_index xs ((at + i) / 8)) ((at + i) % 8) =
    ap (λ b. cond b 1 0) (get_or-bits_of xs at 64 i false lt) ∙ sym (bool_of (bit_at (slice_index xs ((at + i) / 8)) ((at + i) % 8)) (bit_at-lt (slice_index xs ((at + i) / 8)) ((at + i) % 8))) in
    let a : at / 8 + i / 8 ≡ (at + i) / 8 = omega arith in
    let b : i % 8 ≡ (at + i) % 8 = omega arith in
    ap (λ y. bit_at y i) is_low ∙ bit_little 8 (at / 8) i xs h (omega arith) ∙ rw (a, b) (sym shown))
    (λ i le. bit_at_above low 64 i fits le)

pub little_drop : (p i n : ℕ) (xs : List ℕ) → little_from i n (drop p xs) ≡ little_from (p + i) n xs
little_drop p i zero xs = refl
little_drop p i (suc n) xs =
    let e : p + suc i ≡ suc (p + i) = omega arith in
    let rest : little_from (suc i) n (drop p xs) ≡ little_from (suc (p + i)) n xs = rw (← e) (little_drop p (suc i) n xs) in
    rw (get_or-drop p xs i 0, rest) refl

-- the number in a part of the bytes
pub little_part : (p n m : ℕ) (xs : List ℕ) → n ≤ m → little_from 0 n (take m (drop p xs)) ≡ little_from p n xs
little_part p n m xs le = let e : p + 0 ≡ p = omega arith in little_from-take 0 n m (drop p xs) (omega arith) ∙ rw (little_drop p 0 n xs, e) refl

pub range-append : (a m n : ℕ) → range_with_len a (m + n) ≡ range_with_len a m ++ range_with_len (a + m) n
range-append a zero n = let e : zero + n ≡ n = omega arith in let f : a + zero ≡ a = omega arith in rw (e, f) refl
range-append a (suc m) n =
    let e : suc m + n ≡ suc (m + n) = omega arith in
    let f : a + suc m ≡ a + 1 + m = omega arith in
    rw (e, f) (ap (λ r. a ∷ r) (range-append (a + 1) m n))

pub bits_of-append : (bytes : List ℕ) (first m n : ℕ) → bits_of bytes first (m + n) ≡ bits_of bytes first m ++ bits_of bytes (first + m) n
unfolding bits_of
bits_of-append bytes first m n = ap (map (bit_of bytes)) (range-append first m n) ∙ map-append (bit_of bytes) (range_with_len first m) (range_with_len (first + m) n)

-- bits of a part
pub bits_of-take : (bytes : List ℕ) (first len n : ℕ) → n ≤ len → take n (bits_of bytes first len) ≡ bits_of bytes first n
unfolding bits_of
bits_of-take bytes first len n le = take-map-range_with_len (bit_of bytes) first len n le

pub bits_of-drop : (bytes : List ℕ) (first len from : ℕ) → from ≤ len → drop from (bits_of bytes first len) ≡ bits_of bytes (first + from) (len - from)
bits_of-drop bytes first len from le =
    let front = bits_of bytes first from in
    let e : from + (len - from) ≡ len = omega arith in
    ap (λ n. drop from (bits_of bytes first n)) (sym e)
    ∙ ap (drop from) (bits_of-append bytes first from (len - from))
    ∙ ap (λ n. drop n (front ++ bits_of bytes (first + from) (len - from))) (sym (length-bits_of bytes first from))
    ∙ drop-append_seam front (bits_of bytes (first + from) (len - from))

pub bits_of-part : (bytes : List ℕ) (first len from n : ℕ) → from + n ≤ len → take n (drop from (bits_of bytes first len)) ≡ bits_of bytes (first + from) n
bits_of-part bytes first len from n le = ap (take n) (bits_of-drop bytes first len from (omega arith)) ∙ bits_of-take bytes (first + from) (len - from) n (omega arith)

-- the same of bits under their view
pub view_length : (bytes : List ℕ) (first len : ℕ) (bits : List Bool) → bits_of bytes first len ≡ bits → length bits ≡ len
view_length bytes first len bits is = ap length (sym is) ∙ length-bits_of bytes first len

pub view_part : (bytes : List ℕ) (first len from n : ℕ) (bits : List Bool) → bits_of bytes first len ≡ bits → from + n ≤ length bits → bits_of bytes (first + from) n ≡ take n (drop from bits)
view_part bytes first len from n bits is le = sym (bits_of-part bytes first len from n (omega (arith, view_length bytes first len bits is))) ∙ ap (λ r. take n (drop from r)) is

-- words made bit by bit
bit_cases : (a b : Bool) → min (cond a 1 0) (cond b 1 0) ≡ cond (a && b) 1 0
bit_cases true true = refl
bit_cases true false = refl
bit_cases false true = refl
bit_cases false false = refl

or_cases : (a b : Bool) → max (cond a 1 0) (cond b 1 0) ≡ cond (a || b) 1 0
or_cases true true = refl
or_cases true false = refl
or_cases false true = refl
or_cases false false = refl

but_cases : (a b : Bool) → min (cond a 1 0) ((cond a 1 0 + cond b 1 0) % 2) ≡ cond (a && not b) 1 0
but_cases true true = refl
but_cases true false = refl
but_cases false true = refl
but_cases false false = refl

zip_at : (f : Bool → Bool → Bool) → f false false ≡ false → (ms ns : List Bool) → length ms ≡ length ns → (i : ℕ) → get_or (zip2 f ms ns) i false ≡ f (get_or ms i false) (get_or ns i false)
zip_at f e [] [] len i = sym e
zip_at f e [] (n ∷ ns) len i = absurd (omega arith)
zip_at f e (m ∷ ms) [] len i = absurd (omega arith)
zip_at f e (m ∷ ms) (n ∷ ns) len zero = refl
zip_at f e (m ∷ ms) (n ∷ ns) len (suc i) = zip_at f e ms ns (omega arith) i

pub and_masks : (ms ns : List Bool) → length ms ≡ length ns → bit_and (mask_l ms) (mask_l ns) ≡ mask_l (zip2 (λ a b. a && b) ms ns)
and_masks ms ns len = same_from_bits _ _ (λ i.
    bit_at_and (mask_l ms) (mask_l ns) i ∙ rw (bit_mask_l ms i, bit_mask_l ns i, bit_mask_l (zip2 (λ a b. a && b) ms ns) i, zip_at (λ a b. a && b) refl ms ns len i)
    (bit_cases (get_or ms i false) (get_or ns i false)))

pub or_masks : (ms ns : List Bool) → length ms ≡ length ns → bit_or (mask_l ms) (mask_l ns) ≡ mask_l (zip2 (λ a b. a || b) ms ns)
or_masks ms ns len = same_from_bits _ _ (λ i.
    bit_at_or (mask_l ms) (mask_l ns) i ∙ rw (bit_mask_l ms i, bit_mask_l ns i, bit_mask_l (zip2 (λ a b. a || b) ms ns) i, zip_at (λ a b. a || b) refl ms ns len i)
    (or_cases (get_or ms i false) (get_or ns i false)))

pub but_masks : (ms ns : List Bool) → length ms ≡ length ns → bit_and (mask_l ms) (bit_xor (mask_l ms) (mask_l ns)) ≡ mask_l (zip2 (λ a b. a && not b) ms ns)
but_masks ms ns len = same_from_bits _ _ (λ i.
    bit_at_and (mask_l ms) (bit_xor (mask_l ms) (mask_l ns)) i ∙ rw (bit_at_xor (mask_l ms) (mask_l ns) i) (rw (bit_mask_l ms i, bit_mask_l ns i, bit_mask_l (zip2 (λ a b. a && not b) ms ns) i, zip_at (λ a b. a && not b) refl ms ns len i)
    (but_cases (get_or ms i false) (get_or ns i false))))

map_same : (ms : List Bool) → map (λ b. b) ms ≡ ms
map_same [] = refl
map_same (m ∷ ms) = ap (λ r. m ∷ r) (map_same ms)

-- the bits set in a word
pub ones_of : (ms : List Bool) → count_ones (mask_l ms) ≡ count_by (λ b. b) ms
ones_of ms = ap (λ r. count_ones (mask_l r)) (sym (map_same ms)) ∙ ones-mask_l (λ b. b) ms

pub count_more : (bytes : List ℕ) (first m n : ℕ) → count_by (λ b. b) (bits_of bytes first (m + n)) ≡ count_by (λ b. b) (bits_of bytes first m) + count_ones (mask_l (bits_of bytes (first + m) n))
count_more bytes first m n = ap (count_by (λ b. b)) (bits_of-append bytes first m n) ∙ sum_by-append (λ b. cond b 1 0) (bits_of bytes first m) (bits_of bytes (first + m) n)
    ∙ ap (λ r. count_by (λ b. b) (bits_of bytes first m) + r) (sym (ones_of (bits_of bytes (first + m) n)))

pub count-le : (bytes : List ℕ) (first m : ℕ) → count_by (λ b. b) (bits_of bytes first m) ≤ m
count-le bytes first m = let a = count_by-le-length (λ b. b) (bits_of bytes first m) in let b = length-bits_of bytes first m in omega arith

pub mask_room : (ms : List Bool) (k : ℕ) → length ms ≤ k → mask_l ms < 2 ^ k
mask_room ms k le = let a = mask_l-lt ms in let b : 2 ^ length ms ≤ 2 ^ k = pow-le-pow_right (omega arith) le in omega arith

pub byte_cond : (b : Bool) → bool_byte b ≡ cond b 1 0
byte_cond true = refl
byte_cond false = refl

pub byte_small : (b : Bool) → bool_byte b ≤ 1
byte_small true = omega arith
byte_small false = omega arith

low_small : (i k n j : ℕ) → slice_index (bytes_low_first i k n) j < 256
low_small i zero n j = omega arith
low_small zero (suc k) n zero = omega arith
low_small (suc i) (suc k) n zero = omega arith
low_small i (suc k) n (suc j) = low_small (suc i) k n j

-- a word written as bytes
pub written : (w i : ℕ) (xs : List ℕ) → w < 2 ^ 64 → i < 64 → bit_of (xs ++ to_le_bytes w64 w) (8 * length xs + i) ≡ (bit_at w i == 1)
written w i xs fits lt =
    let ys = to_le_bytes w64 w in
    let a : (8 * length xs + i) / 8 ≡ length xs + i / 8 = omega arith in
    let b : (8 * length xs + i) % 8 ≡ i % 8 = omega arith in
    let z : 0 + i / 8 ≡ i / 8 = omega arith in
    let all : little_from 0 8 ys ≡ w = ap (little_from 0 8) (sym (append-nil ys)) ∙ little_number-reads_back 8 w [] fits in
    let bytes : bit_at w i ≡ bit_at (slice_index ys (i / 8)) (i % 8) = ap (λ y. bit_at y i) (sym all) ∙ bit_little 8 0 i ys (λ k. low_small 0 8 w k) lt ∙ ap (λ y. bit_at (slice_index ys y) (i % 8)) z in
    rw (a, b) (ap (λ y. bit_at y (i % 8) == 1) (get_or-append-add xs ys (i / 8) 0) ∙ ap (λ y. y == 1) (sym bytes))

pub zip2-append : (f : Bool → Bool → Bool) (vs bs cs ds : List Bool) → length vs ≡ length cs → zip2 f (vs ++ bs) (cs ++ ds) ≡ zip2 f vs cs ++ zip2 f bs ds
zip2-append f [] bs [] ds len = refl
zip2-append f [] bs (c ∷ cs) ds len = absurd (omega arith)
zip2-append f (a ∷ vs) bs [] ds len = absurd (omega arith)
zip2-append f (a ∷ vs) bs (c ∷ cs) ds len = ap (λ r. f a c ∷ r) (zip2-append f vs bs cs ds (omega arith))

-- bits of the front of a list of bytes
pub front_bits : (xs ys : List ℕ) (n : ℕ) → n ≤ 8 * length xs → bits_of (xs ++ ys) 0 n ≡ bits_of xs 0 n
front_bits xs ys n le = same_lists (bits_of (xs ++ ys) 0 n) (bits_of xs 0 n) (length-bits_of (xs ++ ys) 0 n ∙ sym (length-bits_of xs 0 n))
    (λ k d lt. let h : k < n = omega (arith, length-bits_of (xs ++ ys) 0 n) in
    get_or-bits_of (xs ++ ys) 0 n k d h ∙ ap (λ y. bit_at y ((0 + k) % 8) == 1) (get_or-append xs ys 0 ((0 + k) / 8) (omega arith)) ∙ sym (get_or-bits_of xs 0 n k d h))

-- the bits of a word that was appended
pub last_bits : (xs : List ℕ) (w n : ℕ) (ms : List Bool) → w < 2 ^ 64 → n ≤ 64 → length ms ≡ n → w ≡ mask_l ms → bits_of (xs ++ to_le_bytes w64 w) (8 * length xs) n ≡ ms
last_bits xs w n ms fits le len is = same_lists (bits_of (xs ++ to_le_bytes w64 w) (8 * length xs) n) ms (length-bits_of (xs ++ to_le_bytes w64 w) (8 * length xs) n ∙ sym len)
    (λ k d lt. let h : k < n = omega (arith, length-bits_of (xs ++ to_le_bytes w64 w) (8 * length xs) n) in
    get_or-bits_of (xs ++ to_le_bytes w64 w) (8 * length xs) n k d h ∙ written w k xs fits (omega arith)
    ∙ ap (λ y. bit_at y k == 1) is ∙ ap (λ y. y == 1) (bit_mask_l ms k) ∙ back (get_or ms k false) ∙ get_or_default ms k false d (omega (arith, len)))
  where
    back : (b : Bool) → (cond b 1 0 == 1) ≡ b
    back true = refl
    back false = refl

pub join_more : (f : Bool → Bool → Bool) (xs ls rs : List ℕ) (lf rf m n w : ℕ) → m ≡ 8 * length xs → n ≤ 64 → w < 2 ^ 64 →
    bits_of xs 0 m ≡ zip2 f (bits_of ls lf m) (bits_of rs rf m) → w ≡ mask_l (zip2 f (bits_of ls (lf + m) n) (bits_of rs (rf + m) n)) →
    bits_of (xs ++ to_le_bytes w64 w) 0 (m + n) ≡ zip2 f (bits_of ls lf (m + n)) (bits_of rs rf (m + n))
join_more f xs ls rs lf rf m n w at le fits had is =
    let ms = zip2 f (bits_of ls (lf + m) n) (bits_of rs (rf + m) n) in
    let both : length (bits_of ls (lf + m) n) ≡ length (bits_of rs (rf + m) n) = length-bits_of ls (lf + m) n ∙ sym (length-bits_of rs (rf + m) n) in
    let len : length ms ≡ n = length-zip2 f (bits_of ls (lf + m) n) (bits_of rs (rf + m) n) both ∙ length-bits_of ls (lf + m) n in
    let z : 0 + m ≡ 8 * length xs = omega arith in
    bits_of-append (xs ++ to_le_bytes w64 w) 0 m n
    ∙ ap (λ r. r ++ bits_of (xs ++ to_le_bytes w64 w) (0 + m) n) (front_bits xs (to_le_bytes w64 w) m (omega arith) ∙ had)
    ∙ ap (λ r. zip2 f (bits_of ls lf m) (bits_of rs rf m) ++ bits_of (xs ++ to_le_bytes w64 w) r n) z
    ∙ ap (λ r. zip2 f (bits_of ls lf m) (bits_of rs rf m) ++ r) (last_bits xs w n ms fits le len is)
    ∙ sym (zip2-append f (bits_of ls lf m) (bits_of ls (lf + m) n) (bits_of rs rf m) (bits_of rs (rf + m) n) (length-bits_of ls lf m ∙ sym (length-bits_of rs rf m)))
    ∙ sym (ap (λ r. zip2 f r (bits_of rs rf (m + n))) (bits_of-append ls lf m n) ∙ ap (λ r. zip2 f (bits_of ls lf m ++ bits_of ls (lf + m) n) r) (bits_of-append rs rf m n))

pub join_none : (f : Bool → Bool → Bool) (xs ls rs : List ℕ) (lf rf : ℕ) → bits_of xs 0 0 ≡ zip2 f (bits_of ls lf 0) (bits_of rs rf 0)
unfolding bits_of
join_none f xs ls rs lf rf = refl

pub no_count : (bytes : List ℕ) (first : ℕ) → 0 ≡ count_by (λ b. b) (bits_of bytes first 0)
unfolding bits_of
no_count bytes first = refl
