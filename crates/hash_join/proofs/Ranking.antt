-- Of bits that are 1, each is told by how many before it are 1.
use Rattle.std.proofs.Common.{◌≡◌, ◌≤◌, ◌<◌, ◌+◌, ◌-◌, ◌*◌, ◌/◌, ◌%◌, ◌^◌, ℕ, zero, suc, Bool, true, false, cond, List, [], ◌∷◌, ◌++◌, length, get_or, take, drop, inl, inr, refl, sym, ap, ◌∙◌, arith, length-drop}
use Rattle.std.specs.List.{count_by}
use Rattle.std.specs.Int.Bits.{bit_and}
use Rattle.std.specs.Int.RustNames.{count_ones}
use Rattle.std.specs.Simd.Lanes.{mask_l}
use Rattle.std.proofs.Math.Nat.{add-mul-mod_self_left, mul_assoc, pow-le-pow_right}
use Rattle.std.proofs.lemmas.Nat.{and_mask}
use Rattle.std.proofs.lemmas.Simd.{mask_l-mod}
use Rattle.bitmap.proofs.Masks.{ones_of}
use Rattle.std.proofs.Math.ListN.{get_or-eq_default}
use Rattle.std.proofs.Math.Seq.{take-add}
use Rattle.std.proofs.lemmas.Bool.{cases_lt, false≢true}
use Rattle.std.proofs.lemmas.List.{get_or_append_left, get_or_push, length-take, take-append-drop}
use Rattle.std.proofs.lemmas.List.Sums.{sum_by-append, sum_by-take-le, count_by_more_yes, count_by-le-length}
use Rattle.hash_join.specs.Ranks.{rank_at}

-- the bits before a place, and some more
pub rank_more : (bits : List Bool) (place more : ℕ) → rank_at bits (place + more) ≡ rank_at bits place + count_by (λ bit. bit) (take more (drop place bits))
rank_more bits place more =
    ap (count_by (λ bit. bit)) (take-add place more bits) ∙ sum_by-append (λ bit. cond bit 1 0) (take place bits) (take more (drop place bits))

-- a bit that is 1 is there
pub bit_there : (bits : List Bool) (place : ℕ) → get_or bits place false ≡ true → place < length bits
bit_there bits place one = elim (cases_lt place (length bits)) [ inl lt ↦ lt | inr past ↦ absurd (false≢true (sym (get_or-eq_default bits false past) ∙ one)) ]

-- more bits are 1 before a later place than before one that is 1
rank_rises : (bits : List Bool) (place later : ℕ) → place < later → get_or bits place false ≡ true → rank_at bits place < rank_at bits later
rank_rises bits place later before one =
    let here = count_by_more_yes (λ bit. bit) bits place false (bit_there bits place one) one in
    let e : later ≡ place + 1 + (later - (place + 1)) = omega arith in
    let more = ap (rank_at bits) e ∙ rank_more bits (place + 1) (later - (place + 1)) in
    omega (arith, here, more)

-- bits that are 1 with as many before them stand at one place
pub rank_tells : (bits : List Bool) (place other : ℕ) → get_or bits place false ≡ true → get_or bits other false ≡ true → rank_at bits place ≡ rank_at bits other → place ≡ other
rank_tells bits place other one also same = elim (cases_lt place other) [
  | inl before ↦ absurd (omega (arith, rank_rises bits place other before one, same))
  | inr past ↦ elim (cases_lt other place) [
    | inl after ↦ absurd (omega (arith, rank_rises bits other place after also, same))
    | inr here ↦ omega (arith, past, here)
  ]
]

-- fewer bits are 1 before one that is 1 than there are
pub rank_within : (bits : List Bool) (place : ℕ) → get_or bits place false ≡ true → rank_at bits place < count_by (λ bit. bit) bits
rank_within bits place one =
    let here = count_by_more_yes (λ bit. bit) bits place false (bit_there bits place one) one in
    omega (arith, here, sum_by-take-le (λ bit. cond bit 1 0) bits (place + 1))

-- the bits before a place are those before its word, and those before it in the word
pub rank_in_word : (bits : List Bool) (place : ℕ) → rank_at bits place ≡ rank_at bits (64 * (place / 64)) + count_by (λ bit. bit) (take (place % 64) (drop (64 * (place / 64)) bits))
rank_in_word bits place =
    let e : place ≡ 64 * (place / 64) + place % 64 = omega arith in
    ap (rank_at bits) e ∙ rank_more bits (64 * (place / 64)) (place % 64)

-- the bits before the next word
pub rank_word : (bits : List Bool) (word : ℕ) → rank_at bits (64 * (word + 1)) ≡ rank_at bits (64 * word) + count_by (λ bit. bit) (take 64 (drop (64 * word) bits))
rank_word bits word =
    let e : 64 * (word + 1) ≡ 64 * word + 64 = omega arith in
    ap (rank_at bits) e ∙ rank_more bits (64 * word) 64

-- no more bits are 1 than there are
pub rank_few : (bits : List Bool) (place : ℕ) → rank_at bits place ≤ length bits
rank_few bits place = omega (arith, sum_by-take-le (λ bit. cond bit 1 0) bits place, count_by-le-length (λ bit. bit) bits)

-- one more count
pub counts_more : (bits : List Bool) (before : List ℕ) (word ones : ℕ) → length before ≡ word → ((w : ℕ) → w < word → get_or before w 0 ≡ rank_at bits (64 * w)) →
    ones ≡ rank_at bits (64 * word) → (w : ℕ) → w < word + 1 → get_or (before ++ ones ∷ []) w 0 ≡ rank_at bits (64 * w)
counts_more bits before word ones long had is w low = elim (cases_lt w word) [
  | inl lt ↦ let there : w < length before = omega (arith, lt, long) in get_or_append_left before (ones ∷ []) 0 w there ∙ had w lt
  | inr ge ↦ let e : w ≡ word = omega (arith, ge, low) in rw e (get_or_push before ones 0 word long ∙ is)
]

-- ---- the bits of a word before a place

joined : (ones others : List Bool) → mask_l (ones ++ others) ≡ mask_l ones + 2 ^ length ones * mask_l others
joined [] others = omega arith
joined (one ∷ ones) others =
    let power : 2 ^ suc (length ones) ≡ 2 * 2 ^ length ones = omega arith in
    let twice : 2 ^ suc (length ones) * mask_l others ≡ 2 * (2 ^ length ones * mask_l others) = ap (λ x. x * mask_l others) power ∙ mul_assoc 2 (2 ^ length ones) (mask_l others) in
    omega (arith, joined ones others, twice)

low_mask : (bits : List Bool) (count : ℕ) → count ≤ length bits → mask_l bits % 2 ^ count ≡ mask_l (take count bits)
low_mask bits count le =
    let long : length (take count bits) ≡ count = omega (arith, length-take count bits, le) in
    let parts : mask_l bits ≡ mask_l (take count bits) + 2 ^ count * mask_l (drop count bits) =
    ap mask_l (sym (take-append-drop count bits)) ∙ joined (take count bits) (drop count bits)
    ∙ ap (λ (n : ℕ). mask_l (take count bits) + 2 ^ n * mask_l (drop count bits)) long in
    ap (λ (n : ℕ). n % 2 ^ count) parts ∙ add-mul-mod_self_left (mask_l (take count bits)) (2 ^ count) (mask_l (drop count bits))
    ∙ mask_l-mod (take count bits) count (omega (arith, long))

take_less : (bits : List Bool) (few more : ℕ) → few ≤ more → take few (take more bits) ≡ take few bits
take_less bits zero more le = refl
take_less [] (suc few) zero le = refl
take_less [] (suc few) (suc more) le = refl
take_less (bit ∷ bits) (suc few) zero le = absurd (omega (arith, le))
take_less (bit ∷ bits) (suc few) (suc more) le = ap (λ (rest : List Bool). bit ∷ rest) (take_less bits few more (omega (arith, le)))

-- the bits of a word that are 1 before a place in it
pub ones_below : (bits : List Bool) (from place word : ℕ) → place < 64 → from + 64 ≤ length bits → word ≡ mask_l (take 64 (drop from bits)) →
    count_ones (bit_and word (1 * 2 ^ place % 2 ^ 64 - 1)) ≡ count_by (λ bit. bit) (take place (drop from bits))
ones_below bits from place word less there is =
    let few : place ≤ 63 = omega (arith, less) in
    let below : 2 ^ place ≤ 2 ^ 63 = pow-le-pow_right (omega arith) few in
    let one : 1 * 2 ^ place % 2 ^ 64 ≡ 2 ^ place = omega (arith, below) in
    let part : List Bool = take 64 (drop from bits) in
    let long : place ≤ length part = omega (arith, length-take 64 (drop from bits), length-drop from bits, there, less) in
    ap (λ (n : ℕ). count_ones (bit_and word (n - 1))) one
    ∙ ap (λ (n : ℕ). count_ones n) (and_mask word place ∙ ap (λ (n : ℕ). n % 2 ^ place) is ∙ low_mask part place long)
    ∙ ones_of (take place part)
    ∙ ap (count_by (λ bit. bit)) (take_less (drop from bits) place 64 (omega (arith, few)))
