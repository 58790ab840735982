-- The keys of texts: of cut ones, and their order.
use Rattle.std.proofs.Common.{◌≡◌, ◌≤◌, ◌<◌, ℕ, zero, suc, ◌+◌, ◌-◌, ◌*◌, ◌/◌, ◌%◌, ◌^◌, ◌&&◌, nat_le, nat_lt, min, bit_and, nat_cmp, true, false, Some, inl, inr, List, [], ◌∷◌, length, take, drop, refl, sym, ap, subst, ◌∙◌, arith}
use Rattle.std.specs.Prelude.{⊤, slice_index}
use Rattle.std.specs.Ordering.{is_lt, ordering_then}
use Rattle.std.specs.declared.cmp.Ordering.{Ordering}
use Rattle.std.specs.declared.cmp.Ordering.TheVariants.{Less, Equal}
use Rattle.std.specs.Cmp.Lexicographic.{slice_cmp}
use Rattle.std.proofs.Math.Nat.{add-mul, add_assoc, div-div-eq-div-mul, div-mul-le_self, mod-eq_of_lt, mul_assoc, mul_left_comm, mul-le-mul_right, pow-le-pow_right, pow-succ'}
use Rattle.std.proofs.lemmas.Nat.{pow-add, div-mul-add}
use Rattle.std.proofs.lemmas.Nat.Bits.{and_high_mask}
use Rattle.std.proofs.lemmas.Bool.{both_ways, cases_lt, cases_order, false_from_ne_true, le-leb, le-ltb, lt-leb, lt-ltb}
use Rattle.std.proofs.lemmas.Cmp.{tied_itself}
use Rattle.std.specs.Cmp.{nat_cmp_total}
use Rattle.std.proofs.lemmas.List.{get_or-drop, get_or-take, length-drop, length-take}
use Rattle.byteorder.specs.Endian.{big_from}
use Rattle.byteorder.specs.Numbers.{big_from-cons, big_from-take, big_from-lt}
use Rattle.scan_base.specs.declared.comparison.Comparison.TheVariants.{Less as Smaller}
use Rattle.scan_base.specs.declared.value.Value.TheVariants.{Text}
use Rattle.scan_base.specs.Truth.{keeps, truth_from}
use Rattle.batch_stats.specs.Stats.{stand, with_value}
use Rattle.batch_stats.specs.declared.keys.TheConstants.{FIRST_BYTES}
use Rattle.batch_stats.specs.inside.TextKeys.{key_of}
use Rattle.batch_stats.proofs.Standing.{less_through, not_below_itself, stands_kept}

-- ---- numbers of cut bytes

-- a number of two parts
pub big_parts : (i m n : ℕ) (xs : List ℕ) → big_from i (m + n) xs ≡ big_from i m xs * 256 ^ n + big_from (i + m) n xs
big_parts i zero n xs =
    let none : 0 + n ≡ n = omega arith in
    let same : i + 0 ≡ i = omega arith in
    let left : 0 * 256 ^ n + big_from i n xs ≡ big_from i n xs = omega arith in
    ap (λ (k : ℕ). big_from i k xs) none ∙ sym left ∙ ap (λ (k : ℕ). 0 * 256 ^ n + big_from k n xs) (sym same)
big_parts i (suc m) n xs =
    let byte = slice_index xs i in
    let moved : suc i + m ≡ i + suc m = omega arith in
    let one : suc m + n ≡ suc (m + n) = omega arith in
    ap (λ (k : ℕ). big_from i k xs) one
    ∙ ap (λ (r : ℕ). byte * 256 ^ (m + n) + r) (big_parts (suc i) m n xs)
    ∙ ap (λ (p : ℕ). byte * p + (big_from (suc i) m xs * 256 ^ n + big_from (suc i + m) n xs)) (pow-add 256 m n)
    ∙ ap (λ (p : ℕ). p + (big_from (suc i) m xs * 256 ^ n + big_from (suc i + m) n xs)) (sym (mul_assoc byte (256 ^ m) (256 ^ n)))
    ∙ sym (add_assoc (byte * 256 ^ m * 256 ^ n) (big_from (suc i) m xs * 256 ^ n) (big_from (suc i + m) n xs))
    ∙ ap (λ (p : ℕ). p + big_from (suc i + m) n xs) (sym (add-mul (byte * 256 ^ m) (big_from (suc i) m xs) (256 ^ n)))
    ∙ ap (λ (k : ℕ). (byte * 256 ^ m + big_from (suc i) m xs) * 256 ^ n + big_from k n xs) moved

-- of the bytes from a place on
big_drop : (i n k : ℕ) (xs : List ℕ) → big_from i n (drop k xs) ≡ big_from (k + i) n xs
big_drop i zero k xs = refl
big_drop i (suc n) k xs =
    let moved : k + suc i ≡ suc (k + i) = omega arith in
    ap (λ (byte : ℕ). byte * 256 ^ n + big_from (suc i) n (drop k xs)) (get_or-drop k xs i 0)
    ∙ ap (λ (r : ℕ). slice_index xs (k + i) * 256 ^ n + r) (big_drop (suc i) n k xs ∙ ap (λ (j : ℕ). big_from j n xs) moved)

past_end : (xs : List ℕ) (i : ℕ) → length xs ≤ i → slice_index xs i ≡ 0
past_end [] i past = refl
past_end (x ∷ xs) zero past = absurd (omega arith)
past_end (x ∷ xs) (suc i) past = past_end xs i (omega arith)

-- past the end stand zeros
big_past : (i n : ℕ) (xs : List ℕ) → length xs ≤ i → big_from i n xs ≡ 0
big_past i zero xs past = refl
big_past i (suc n) xs past = rw (past_end xs i past, big_past (suc i) n xs (omega (arith, past))) (omega arith)

-- the first seven bytes of a cut text, of which so many are there
pub big_cut : (begin len taken : ℕ) (xs : List ℕ) → ((k : ℕ) → slice_index xs k < 256) → taken ≡ min len 7 →
    big_from begin 8 xs / 256 ^ (8 - taken) * 256 ^ (7 - taken) ≡ big_from 0 7 (take len (drop begin xs))
big_cut begin len taken xs bytes is =
    let text = take len (drop begin xs) in
    let few : taken ≤ 7 = omega (arith, is) in
    let zeroth : 0 + taken ≡ taken = omega arith in
    let within : taken ≤ len = omega (arith, is) in
    let begins : begin + 0 ≡ begin = omega arith in
    let eight : taken + (8 - taken) ≡ 8 = omega (arith, few) in
    let seven : taken + (7 - taken) ≡ 7 = omega (arith, few) in
    let word : big_from begin 8 xs ≡ big_from begin taken xs * 256 ^ (8 - taken) + big_from (begin + taken) (8 - taken) xs =
    ap (λ (n : ℕ). big_from begin n xs) (sym eight) ∙ big_parts begin taken (8 - taken) xs in
    let high : big_from begin 8 xs / 256 ^ (8 - taken) ≡ big_from begin taken xs =
    ap (λ (w : ℕ). w / 256 ^ (8 - taken)) word
    ∙ div-mul-add (big_from begin taken xs) (256 ^ (8 - taken)) (big_from (begin + taken) (8 - taken) xs) (big_from-lt (begin + taken) (8 - taken) xs bytes) in
    let front : big_from 0 taken text ≡ big_from begin taken xs = big_from-take 0 taken len (drop begin xs) (omega (arith, within)) ∙ big_drop 0 taken begin xs ∙ ap (λ (k : ℕ). big_from k taken xs) begins in
    let behind : big_from taken (7 - taken) text ≡ 0 = elim (cases_lt len 7) [
      | inl short ↦
          let all : taken ≡ len = omega (arith, is, short) in
          let most : length text ≤ len = omega (arith, length-take len (drop begin xs)) in
          big_past taken (7 - taken) text (omega (arith, all, most))
      | inr long ↦
          let none : 7 - taken ≡ 0 = omega (arith, is, long) in
          ap (λ (n : ℕ). big_from taken n text) none
    ] in
    let plus : big_from 0 taken text * 256 ^ (7 - taken) + 0 ≡ big_from 0 taken text * 256 ^ (7 - taken) = omega arith in
    ap (λ (h : ℕ). h * 256 ^ (7 - taken)) (high ∙ sym front)
    ∙ sym plus
    ∙ sym (ap (λ (n : ℕ). big_from 0 n text) (sym seven) ∙ big_parts 0 taken (7 - taken) text ∙ ap (λ (k : ℕ). big_from 0 taken text * 256 ^ (7 - taken) + big_from k (7 - taken) text) zeroth ∙ ap (λ (b : ℕ). big_from 0 taken text * 256 ^ (7 - taken) + b) behind)

-- ---- the order of texts by their first bytes

lt_less : (x y : ℕ) → x < y → nat_cmp x y ≡ Less
lt_less x y lt = rw (lt-ltb x y lt) refl

same_equal : (x : ℕ) → nat_cmp x x ≡ Equal
same_equal x = tied_itself nat_cmp_total x

-- the higher first byte decides
first_decides : (x y p q base : ℕ) → q < base → x * base + p ≤ y * base + q → x ≤ y
first_decides x y p q base low le = elim (cases_lt y x) [
  | inl above ↦
      let more : (y + 1) * base ≤ x * base = mul-le-mul_right base (omega (arith, above)) in
      let expand : (y + 1) * base ≡ y * base + 1 * base = add-mul y 1 base in
      absurd (omega (arith, more, expand, low, le))
  | inr upto ↦ upto
]

pow_bytes : (k : ℕ) → 2 ^ (8 * k) ≡ 256 ^ k
pow_bytes zero = refl
pow_bytes (suc k) =
    let e : 8 * suc k ≡ 8 + 8 * k = omega arith in
    ap (λ (n : ℕ). 2 ^ n) e ∙ pow-add 2 8 (8 * k) ∙ ap (λ (n : ℕ). 256 * n) (pow_bytes k) ∙ sym (pow-succ' 256 k)

abbrev Each : (ℕ → Type 0) → ℕ → Type 0
Each P zero = ⊤
Each P (suc n) = P n × Each P n

each : (P : ℕ → Type 0) (n k : ℕ) → Each P n → k < n → P k
each P zero k h l = absurd (omega arith)
each P (suc n) k h l = elim (cases_lt k n) [ inl a ↦ each P n k h.1 a | inr a ↦ let e : n ≡ k = omega arith in subst P e h.0 ]

-- the bits of the first bytes of a word, at most seven
first_bits : (count : ℕ) → count ≤ 8 → slice_index FIRST_BYTES count ≡ 2 ^ 64 - 2 ^ (64 - 8 * min count 7)
first_bits count few =
    each (λ n. slice_index FIRST_BYTES n ≡ 2 ^ 64 - 2 ^ (64 - 8 * min n 7)) 9 count
    (refl, (refl, (refl, (refl, (refl, (refl, (refl, (refl, (refl, tt))))))))) (omega arith)

-- a word without the bytes after the first ones, and without its last
pub word_front : (word count : ℕ) → word < 2 ^ 64 → count ≤ 7 →
    word / 256 / 2 ^ (56 - 8 * count) * 2 ^ (56 - 8 * count) % 2 ^ 64 ≡ word / 256 ^ (8 - count) * 256 ^ (7 - count)
word_front word count fits few =
    let same : 56 - 8 * count ≡ 8 * (7 - count) = omega (arith, few) in
    let more : 8 - count ≡ suc (7 - count) = omega (arith, few) in
    let most : word / 256 / 256 ^ (7 - count) * 256 ^ (7 - count) ≤ word / 256 = div-mul-le_self (word / 256) (256 ^ (7 - count)) in
    ap (λ (n : ℕ). word / 256 / 2 ^ n * 2 ^ n % 2 ^ 64) same
    ∙ ap (λ (n : ℕ). word / 256 / n * n % 2 ^ 64) (pow_bytes (7 - count))
    ∙ mod-eq_of_lt (omega (arith, most, fits))
    ∙ ap (λ (n : ℕ). n * 256 ^ (7 - count)) (div-div-eq-div-mul word 256 (256 ^ (7 - count)) ∙ ap (λ (n : ℕ). word / n) (sym (ap (λ (n : ℕ). 256 ^ n) more ∙ pow-succ' 256 (7 - count))))

-- a word with zeros in place of the bytes after the first ones
pub word_masked : (word count : ℕ) → word < 2 ^ 64 → count ≤ 8 →
    bit_and word (slice_index FIRST_BYTES count) ≡ 256 * (word / 256 ^ (8 - min count 7) * 256 ^ (7 - min count 7))
word_masked word count fits few =
    let kept = 8 - min count 7 in
    let same : 64 - 8 * min count 7 ≡ 8 * kept = omega arith in
    let more : kept ≡ suc (7 - min count 7) = omega arith in
    let whole : 256 ^ kept ≡ 256 * 256 ^ (7 - min count 7) = ap (λ (n : ℕ). 256 ^ n) more ∙ pow-succ' 256 (7 - min count 7) in
    ap (λ (m : ℕ). bit_and word m) (first_bits count few)
    ∙ and_high_mask 64 (64 - 8 * min count 7) (omega arith) word fits
    ∙ ap (λ (n : ℕ). word / 2 ^ n * 2 ^ n) same
    ∙ ap (λ (n : ℕ). word / n * n) (pow_bytes kept)
    ∙ ap (λ (n : ℕ). word / 256 ^ kept * n) whole
    ∙ mul_left_comm (word / 256 ^ kept) 256 (256 ^ (7 - min count 7))

same_first : (x y p q base : ℕ) → p < base → q < base → x * base + p ≡ y * base + q → (x ≡ y) × (p ≡ q)
same_first x y p q base low high is =
    let up = first_decides x y p q base high (omega (arith, is)) in
    let down = first_decides y x q p base low (omega (arith, is)) in
    let same : x ≡ y = omega (arith, up, down) in
    let bases : x * base ≡ y * base = ap (λ (z : ℕ). z * base) same in
    (same, omega (arith, bases, is))

no_bytes : (i n : ℕ) → big_from i n [] ≡ 0
no_bytes i n = big_past i n [] (omega arith)

abbrev pub Bytes : List ℕ → Type 0
Bytes xs = (k : ℕ) → slice_index xs k < 256

tail_bytes : (x : ℕ) (xs : List ℕ) → Bytes (x ∷ xs) → Bytes xs
tail_bytes x xs bytes k = bytes (suc k)

big_more : (n x : ℕ) (xs : List ℕ) → big_from 0 (suc n) (x ∷ xs) ≡ x * 256 ^ n + big_from 0 n xs
big_more n x xs = ap (λ (r : ℕ). x * 256 ^ n + r) (big_from-cons 0 n x xs)

-- with a lower number in front, a text is below another
prefix_less : (n : ℕ) (xs ys : List ℕ) → Bytes xs → Bytes ys → big_from 0 n xs < big_from 0 n ys → slice_cmp nat_cmp xs ys ≡ Less
prefix_less zero xs ys low high lt = absurd (omega (arith, lt))
prefix_less (suc n) xs [] low high lt = absurd (omega (arith, no_bytes 0 (suc n), lt))
prefix_less (suc n) [] (y ∷ ys) low high lt = refl
prefix_less (suc n) (x ∷ xs) (y ∷ ys) low high lt =
    let below = big_from-lt 0 n ys (tail_bytes y ys high) in
    let upto = first_decides x y (big_from 0 n xs) (big_from 0 n ys) (256 ^ n) below (omega (arith, big_more n x xs, big_more n y ys, lt)) in
    elim (cases_lt x y) [
      | inl first ↦ ap (λ (o : Ordering). ordering_then o (slice_cmp nat_cmp xs ys)) (lt_less x y first)
      | inr not_first ↦
          let same : x ≡ y = omega (arith, upto, not_first) in
          let bases : x * 256 ^ n ≡ y * 256 ^ n = ap (λ (z : ℕ). z * 256 ^ n) same in
          rw same (ap (λ (o : Ordering). ordering_then o (slice_cmp nat_cmp xs ys)) (same_equal y)
          ∙ prefix_less n xs ys (tail_bytes x xs low) (tail_bytes y ys high) (omega (arith, big_more n x xs, big_more n y ys, bases, lt)))
    ]

-- of the same number in front, the shorter one is below the other
prefix_shorter : (n : ℕ) (xs ys : List ℕ) → Bytes xs → Bytes ys → big_from 0 n xs ≡ big_from 0 n ys → length xs ≤ n → length xs < length ys → slice_cmp nat_cmp xs ys ≡ Less
prefix_shorter n xs [] low high is few shorter = absurd (omega (arith, shorter))
prefix_shorter n [] (y ∷ ys) low high is few shorter = refl
prefix_shorter zero (x ∷ xs) (y ∷ ys) low high is few shorter = absurd (omega (arith, few))
prefix_shorter (suc n) (x ∷ xs) (y ∷ ys) low high is few shorter =
    let both = same_first x y (big_from 0 n xs) (big_from 0 n ys) (256 ^ n) (big_from-lt 0 n xs (tail_bytes x xs low)) (big_from-lt 0 n ys (tail_bytes y ys high))
    (sym (big_more n x xs) ∙ is ∙ big_more n y ys) in
    rw both.0 (ap (λ (o : Ordering). ordering_then o (slice_cmp nat_cmp xs ys)) (same_equal y)
    ∙ prefix_shorter n xs ys (tail_bytes x xs low) (tail_bytes y ys high) both.1 (omega (arith, few)) (omega (arith, shorter)))

-- texts of one length with the same number of all their bytes are the same
prefix_same : (n : ℕ) (xs ys : List ℕ) → Bytes xs → Bytes ys → big_from 0 n xs ≡ big_from 0 n ys → length xs ≤ n → length xs ≡ length ys → xs ≡ ys
prefix_same n [] [] low high is few long = refl
prefix_same n [] (y ∷ ys) low high is few long = absurd (omega (arith, long))
prefix_same n (x ∷ xs) [] low high is few long = absurd (omega (arith, long))
prefix_same zero (x ∷ xs) (y ∷ ys) low high is few long = absurd (omega (arith, few))
prefix_same (suc n) (x ∷ xs) (y ∷ ys) low high is few long =
    let both = same_first x y (big_from 0 n xs) (big_from 0 n ys) (256 ^ n) (big_from-lt 0 n xs (tail_bytes x xs low)) (big_from-lt 0 n ys (tail_bytes y ys high))
    (sym (big_more n x xs) ∙ is ∙ big_more n y ys) in
    ap (λ (z : ℕ). z ∷ xs) both.0 ∙ ap (λ (zs : List ℕ). y ∷ zs) (prefix_same n xs ys (tail_bytes x xs low) (tail_bytes y ys high) both.1 (omega (arith, few)) (omega (arith, long)))

-- a lower key tells the order
pub lower_key : (xs ys : List ℕ) → Bytes xs → Bytes ys → key_of xs < key_of ys → slice_cmp nat_cmp xs ys ≡ Less
lower_key xs ys low high lt = elim (cases_order (big_from 0 7 xs) (big_from 0 7 ys)) [
  | inl same ↦ prefix_shorter 7 xs ys low high same (omega (arith, same, lt)) (omega (arith, same, lt))
  | inr (inl below) ↦ prefix_less 7 xs ys low high below
  | inr (inr above) ↦ absurd (omega (arith, above, lt))
]

-- so does the same key of few bytes
pub same_key : (xs ys : List ℕ) → Bytes xs → Bytes ys → key_of xs ≡ key_of ys → key_of xs % 256 < 8 → xs ≡ ys
same_key xs ys low high is short = prefix_same 7 xs ys low high (omega (arith, is)) (omega (arith, short)) (omega (arith, is, short))

-- ---- as the code works them out

-- seven bytes have room for one more
pub seven_room : (i n : ℕ) (xs : List ℕ) → Bytes xs → n ≤ 7 → big_from i n xs < 2 ^ 56
seven_room i n xs bytes few =
    let below = big_from-lt i n xs bytes in
    let most : 256 ^ n ≤ 256 ^ 7 = pow-le-pow_right (omega arith) few in
    omega (arith, below, most)

-- one byte more
pub big_next : (begin place : ℕ) (xs : List ℕ) → begin ≤ place → 256 * big_from begin (place - begin) xs + slice_index xs place ≡ big_from begin (place + 1 - begin) xs
big_next begin place xs low =
    let count = place - begin in
    let more : place + 1 - begin ≡ count + 1 = omega (arith, low) in
    let there : begin + count ≡ place = omega (arith, low) in
    let last : big_from (begin + count) 1 xs ≡ slice_index xs place = ap (λ (k : ℕ). slice_index xs k * 1 + 0) there ∙ omega arith in
    let parts = big_parts begin count 1 xs in
    omega (arith, last, parts) ∙ ap (λ (n : ℕ). big_from begin n xs) (sym more)

-- what is left of a word has room below it
pub front_room : (word count : ℕ) → word < 2 ^ 64 → count ≤ 7 → word / 256 ^ (8 - count) * 256 ^ (7 - count) < 2 ^ 56
front_room word count fits few =
    let most : word / 256 / 2 ^ (56 - 8 * count) * 2 ^ (56 - 8 * count) ≤ word / 256 = div-mul-le_self (word / 256) (2 ^ (56 - 8 * count)) in
    let front = word_front word count fits few in
    let same : word / 256 / 2 ^ (56 - 8 * count) * 2 ^ (56 - 8 * count) % 2 ^ 64 ≡ word / 256 / 2 ^ (56 - 8 * count) * 2 ^ (56 - 8 * count) = mod-eq_of_lt (omega (arith, most, fits)) in
    omega (arith, most, fits, front, same)

pub key_is : (begin end first count : ℕ) (xs : List ℕ) → Bytes xs → begin ≤ end → end ≤ length xs → count ≡ min (end - begin) 8 →
    first ≡ 256 * (big_from begin 8 xs / 256 ^ (8 - min count 7) * 256 ^ (7 - min count 7)) → first + count ≡ key_of (take (end - begin) (drop begin xs))
key_is begin end first count xs bytes ordered within few is =
    let text = take (end - begin) (drop begin xs) in
    let long : length text ≡ end - begin = length-take (end - begin) (drop begin xs) ∙ ap (λ (n : ℕ). min (end - begin) n) (length-drop begin xs) ∙ omega (arith, ordered, within) in
    let taken : min count 7 ≡ min (end - begin) 7 = omega (arith, few) in
    let all : count ≡ min (length text) 8 = omega (arith, few, long) in
    ap (λ (f : ℕ). f + count) (is ∙ ap (λ (f : ℕ). 256 * f) (big_cut begin (end - begin) (min count 7) xs bytes taken)) ∙ ap (λ (c : ℕ). 256 * big_from 0 7 text + c) all

-- ---- whether a text changes an end

pub below_by_key : (xs ys : List ℕ) → Bytes xs → Bytes ys → key_of xs < key_of ys → stand Smaller (Text xs) (Text ys) ≡ true
below_by_key xs ys low high lt = ap (λ (o : Ordering). keeps (truth_from (is_lt o))) (lower_key xs ys low high lt)

pub not_below_by_key : (xs ys : List ℕ) → Bytes xs → Bytes ys → key_of ys < key_of xs → stand Smaller (Text xs) (Text ys) ≡ false
not_below_by_key xs ys low high lt =
    false_from_ne_true (stand Smaller (Text xs) (Text ys)) (λ h. both_ways (stand Smaller (Text xs) (Text xs)) (not_below_itself (Text xs))
    (less_through (Text xs) (Text ys) (Text xs) h (below_by_key ys xs high low lt)))

not_below_same : (xs ys : List ℕ) → xs ≡ ys → stand Smaller (Text xs) (Text ys) ≡ false
not_below_same xs ys same = rw same (not_below_itself (Text ys))

-- a text whose key is none of a lower text's is not below that
not_below_low : (xs ys : List ℕ) → Bytes xs → Bytes ys → key_of ys + key_of ys % 256 / 8 ≤ key_of xs → stand Smaller (Text xs) (Text ys) ≡ false
not_below_low xs ys low high le = elim (cases_lt (key_of ys) (key_of xs)) [
  | inl lt ↦ not_below_by_key xs ys low high lt
  | inr ge ↦
      let same : key_of ys ≡ key_of xs = omega (arith, le, ge) in
      let short : key_of ys % 256 < 8 = omega (arith, le, ge) in
      not_below_same xs ys (sym (same_key ys xs high low same short))
]

not_above_high : (xs ys : List ℕ) → Bytes xs → Bytes ys → key_of xs ≤ key_of ys - key_of ys % 256 / 8 → stand Smaller (Text ys) (Text xs) ≡ false
not_above_high xs ys low high le = elim (cases_lt (key_of xs) (key_of ys)) [
  | inl lt ↦ not_below_by_key ys xs high low lt
  | inr ge ↦
      let same : key_of ys ≡ key_of xs = omega (arith, le, ge) in
      let short : key_of ys % 256 < 8 = omega (arith, le, ge) in
      not_below_same ys xs (same_key ys xs high low same short)
]

pub key_keeps : (least greatest text : List ℕ) → Bytes least → Bytes greatest → Bytes text →
    key_of least + key_of least % 256 / 8 ≤ key_of text → key_of text ≤ key_of greatest - key_of greatest % 256 / 8 →
    with_value (Some (Text least, Text greatest)) (Text text) ≡ Some (Text least, Text greatest)
key_keeps least greatest text least_bytes greatest_bytes bytes low high =
    stands_kept (Some (Text least, Text greatest)) (Text text) (not_below_low text least bytes least_bytes low, not_above_high text greatest bytes greatest_bytes high)

-- whether a key is one from `low` up to `high`, by how far it is after `low` and how many there are
pub told_by_count : (low high key count : ℕ) → key < 2 ^ 64 → high < 2 ^ 64 → count ≡ high + 1 - low →
    nat_lt ((key + (2 ^ 64 - low)) % 2 ^ 64) count ≡ (nat_le low key && nat_le key high)
told_by_count low high key count fits high_fits is = elim (cases_lt key low) [
  | inl below ↦
      let far = (key + (2 ^ 64 - low)) % 2 ^ 64 in
      let few : count ≤ far = elim (cases_lt (2 ^ 64) low) [
        | inl huge ↦ omega (arith, is, high_fits, huge)
        | inr small ↦
            let same : (key + (2 ^ 64 - low)) % 2 ^ 64 ≡ key + (2 ^ 64 - low) = mod-eq_of_lt (omega (arith, below, small)) in
            omega (arith, is, high_fits, small, same)
      ] in
      rw (le-ltb far count few, lt-leb low key below) refl
  | inr from ↦
      let near : (key + (2 ^ 64 - low)) % 2 ^ 64 ≡ key - low = omega (arith, from, fits) in
      elim (cases_lt high key) [
        | inl above ↦ rw (near, le-ltb (key - low) count (omega (arith, is, above, from)), le-leb low key from, lt-leb key high above) refl
        | inr upto ↦ rw (near, lt-ltb (key - low) count (omega (arith, is, upto, from)), le-leb low key from, le-leb key high upto) refl
      ]
]

-- the bytes of a cut text
pub cut_bytes : (begin n : ℕ) (xs : List ℕ) → Bytes xs → Bytes (take n (drop begin xs))
cut_bytes begin n xs bytes k = elim (cases_lt k n) [
  | inl low ↦ let e : slice_index (take n (drop begin xs)) k ≡ slice_index xs (begin + k) = get_or-take n (drop begin xs) k 0 low ∙ get_or-drop begin xs k 0 in omega (arith, e, bytes (begin + k))
  | inr past ↦ let e : slice_index (take n (drop begin xs)) k ≡ 0 = past_end (take n (drop begin xs)) k (omega (arith, past, length-take n (drop begin xs))) in omega (arith, e)
]
