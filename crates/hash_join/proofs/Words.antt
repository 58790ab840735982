-- The rows of a word: those that pass, in order.
use Rattle.std.proofs.Common.{◌≡◌, ℕ, zero, suc, ◌+◌, ◌-◌, ◌*◌, ◌/◌, ◌%◌, ◌^◌, ◌<◌, ◌≤◌, ◌&&◌, min, Bool, true, false, cond, ◌==◌, List, [], ◌∷◌, ◌++◌, All, length, get_or, map, take, drop, refl, sym, ap, ap₂, subst, ◌∙◌, arith, mod-lt, zero-lt-suc, pow-suc, add-zero, append_assoc}
use Rattle.std.specs.List.{filter, range_with_len}
use Rattle.std.specs.Simd.Lanes.{mask_l, zip2}
use Rattle.std.proofs.Math.ListN.{set}
use Rattle.std.proofs.Math.Seq.{drop-cons}
use Rattle.std.proofs.lemmas.List.{take_more_set}
use Rattle.std.proofs.lemmas.List.Elements.{All-tail}
use Rattle.std.proofs.lemmas.List.FromFn.{length-map-range_with_len, length-range_with_len}
use Rattle.std.proofs.lemmas.List.Sums.{length-filter, count_by-le-length}
use Rattle.std.proofs.lemmas.Simd.{mask_l-lt}
use Rattle.std.proofs.Math.Nat.{pow-le-pow_right}
use Rattle.bitmap.proofs.Masks.{and_masks}
use mir.Val.{bool_byte}
use lib.Bits.{bit_and, and_step, and_self}
use lib.Count.{count_trailing_zeros, under}
use Rattle.hash_join.specs.Words.{passing_word, set_bits}

-- ---- words that are made row by row

-- a truth value as a bit
pub bit_is : (b : Bool) → bool_byte b ≡ cond b 1 0
bit_is true = refl
bit_is false = refl

pub bit_small : (b : Bool) → bool_byte b ≤ 1
bit_small true = omega arith
bit_small false = omega arith

-- one row more, before the others
pub word_more : (passes : ℕ → Bool) (from count : ℕ) → 2 * passing_word passes (from + 1) count + cond (passes from) 1 0 ≡ passing_word passes from (count + 1)
word_more passes from count = let e : count + 1 ≡ suc count = omega arith in rw e (omega arith)

-- fewer than 64 rows leave room for one more
pub word_room : (passes : ℕ → Bool) (from count limit : ℕ) → count ≤ limit → passing_word passes from count < 2 ^ limit
word_room passes from count limit le =
    let less = mask_l-lt (map passes (range_with_len from count)) in
    let more : 2 ^ length (map passes (range_with_len from count)) ≤ 2 ^ limit = pow-le-pow_right (omega arith) (omega (arith, length-map-range_with_len passes from count)) in
    omega (arith, less, more)

-- rows are places that are counted from one on
pub word_places : (passes : ℕ → Bool) (first from count : ℕ) → passing_word passes (first + from) count ≡ passing_word (λ row. passes (first + row)) from count
word_places passes first from zero = refl
word_places passes first from (suc count) =
    let e : first + from + 1 ≡ first + (from + 1) = omega arith in
    let rest : passing_word passes (first + from + 1) count ≡ passing_word (λ row. passes (first + row)) (from + 1) count =
    ap (λ (at : ℕ). passing_word passes at count) e ∙ word_places passes first (from + 1) count in
    ap (λ (word : ℕ). cond (passes (first + from)) 1 0 + 2 * word) rest

-- all rows pass
pub all_word : (from count : ℕ) → passing_word (λ _. true) from count + 1 ≡ 2 ^ count
all_word from zero = refl
all_word from (suc count) = omega (arith, all_word (from + 1) count, pow-suc 2 count)

zip_maps : (one other : ℕ → Bool) (from count : ℕ) →
    zip2 (λ a b. a && b) (map one (range_with_len from count)) (map other (range_with_len from count)) ≡ map (λ row. one row && other row) (range_with_len from count)
zip_maps one other from zero = refl
zip_maps one other from (suc count) = ap (λ (rest : List Bool). (one from && other from) ∷ rest) (zip_maps one other (from + 1) count)

-- rows that pass both of two tests
pub both_words : (one other : ℕ → Bool) (from count : ℕ) → bit_and (passing_word one from count) (passing_word other from count) ≡ passing_word (λ row. one row && other row) from count
both_words one other from count =
    and_masks (map one (range_with_len from count)) (map other (range_with_len from count))
    (length-map-range_with_len one from count ∙ sym (length-map-range_with_len other from count))
    ∙ ap mask_l (zip_maps one other from count)

-- a part of some bits
bits_part : (bits : List Bool) (from count : ℕ) → from + count ≤ length bits → take count (drop from bits) ≡ map (λ place. get_or bits place false) (range_with_len from count)
bits_part bits from zero le = refl
bits_part bits from (suc count) le =
    let there : from < length bits = omega (arith, le) in
    let e : suc from ≡ from + 1 = omega arith in
    ap (take (suc count)) (drop-cons bits from false there)
    ∙ ap (λ (at : ℕ). get_or bits from false ∷ take count (drop at bits)) e
    ∙ ap (λ (rest : List Bool). get_or bits from false ∷ rest) (bits_part bits (from + 1) count (omega (arith, le)))

pub part_word : (bits : List Bool) (from count : ℕ) → from + count ≤ length bits → mask_l (take count (drop from bits)) ≡ passing_word (λ place. get_or bits place false) from count
part_word bits from count le = ap mask_l (bits_part bits from count le)

-- rows whose bits are 1 and whose numbers pass
pub known_rows : (bits : List Bool) (passes : ℕ → Bool) (first from count known found : ℕ) → known ≡ passing_word (λ place. get_or bits place false) (first + from) count →
    found ≡ passing_word passes (first + from) count → bit_and known found ≡ passing_word (λ row. get_or bits (first + row) false && passes (first + row)) from count
known_rows bits passes first from count known found is are =
    ap₂ bit_and is are ∙ both_words (λ place. get_or bits place false) passes (first + from) count
    ∙ word_places (λ place. get_or bits place false && passes place) first from count

-- ---- the places of the bits of a word: the lowest comes first

pub no_bits : (k b : ℕ) → set_bits k b 0 ≡ []
unfolding set_bits
no_bits zero b = refl
no_bits (suc k) b = no_bits k (b + 1)

bit_cases : (P : ℕ → Type 0) → P 0 → P 1 → (x : ℕ) → x < 2 → P x
bit_cases P p q zero h = p
bit_cases P p q (suc zero) h = q
bit_cases P p q (suc (suc r)) h = absurd (omega arith)

abbrev turn : ℕ → ℕ → ℕ → ℕ → List ℕ
turn k b r t = cond (r == 1) (b ∷ set_bits k (b + 1) t) (set_bits k (b + 1) t)

abbrev Goal : ℕ → ℕ → ℕ → Type 0
Goal k b x = turn k b (x % 2) (x / 2) ≡ (b + under (x % 2) (count_trailing_zeros k (x / 2))) ∷ turn k b (bit_and x (x - 1) % 2) (bit_and x (x - 1) / 2)

pub lowest : (k b x : ℕ) → 0 < x → x < 2 ^ k → set_bits k b x ≡ (b + count_trailing_zeros k x) ∷ set_bits k b (bit_and x (x - 1))
unfolding set_bits count_trailing_zeros
lowest zero b x pos h = let no : ⊥ = omega arith in absurd no
lowest (suc k) b x pos h = bit_cases (λ r. x % 2 ≡ r → Goal k b x) (even (λ p. lowest k (b + 1) (x / 2) p (omega (arith, pow-suc 2 k)))) odd (x % 2) (mod-lt x (zero-lt-suc 1)) refl
  where
    odd : x % 2 ≡ 1 → Goal k b x
    odd e =
        let y = bit_and x (x - 1) in
        let half : (x - 1) / 2 ≡ x / 2 = omega arith in
        let low : min (x % 2) ((x - 1) % 2) ≡ 0 = omega arith in
        let is : y ≡ x / 2 * 2 + 0 = and_step x (x - 1) ∙ ap₂ (λ u v. u * 2 + v) (ap (bit_and (x / 2)) half ∙ and_self (x / 2)) low in
        let p : y % 2 ≡ 0 = omega arith in
        let q : y / 2 ≡ x / 2 = omega arith in
        ap (λ r. turn k b r (x / 2)) e ∙ ap₂ (λ u v. u ∷ v) (sym (ap (λ r. b + under r (count_trailing_zeros k (x / 2))) e ∙ add-zero b)) (sym (ap₂ (turn k b) p q))

    even : (0 < x / 2 → set_bits k (b + 1) (x / 2) ≡ (b + 1 + count_trailing_zeros k (x / 2)) ∷ set_bits k (b + 1) (bit_and (x / 2) (x / 2 - 1))) → x % 2 ≡ 0 → Goal k b x
    even below e =
        let y = bit_and x (x - 1) in
        let half : (x - 1) / 2 ≡ x / 2 - 1 = omega arith in
        let low : min (x % 2) ((x - 1) % 2) ≡ 0 = omega arith in
        let z = bit_and (x / 2) (x / 2 - 1) in
        let is : y ≡ z * 2 + 0 = and_step x (x - 1) ∙ ap₂ (λ u v. u * 2 + v) (ap (bit_and (x / 2)) half) low in
        let p : y % 2 ≡ 0 = omega arith in
        let q : y / 2 ≡ z = omega arith in
        let t = count_trailing_zeros k (x / 2) in
        let place : b + 1 + t ≡ b + suc t = omega arith in
        ap (λ r. turn k b r (x / 2)) e ∙ below (omega arith)
        ∙ ap₂ (λ u v. u ∷ v) (place ∙ sym (ap (λ r. b + under r t) e)) (sym (ap₂ (turn k b) p q))

-- the places of the bits of a word are its rows that pass
pub word_rows : (passes : ℕ → Bool) (k from count : ℕ) → count ≤ k → set_bits k from (passing_word passes from count) ≡ filter passes (range_with_len from count)
unfolding set_bits
word_rows passes k from zero le = no_bits k from
word_rows passes zero from (suc count) le = absurd (omega (arith, le))
word_rows passes (suc k) from (suc count) le = by (passes from) refl (word_rows passes k (from + 1) count (omega (arith, le)))
  where
    later : ℕ
    later = passing_word passes (from + 1) count

    rows : List ℕ
    rows = filter passes (range_with_len (from + 1) count)

    by : (b : Bool) → passes from ≡ b → set_bits k (from + 1) later ≡ rows →
        turn k from ((cond (passes from) 1 0 + 2 * later) % 2) ((cond (passes from) 1 0 + 2 * later) / 2) ≡ cond (passes from) (from ∷ rows) rows
    by true e are =
        let low : (cond (passes from) 1 0 + 2 * later) % 2 ≡ 1 = ap (λ (b : Bool). (cond b 1 0 + 2 * later) % 2) e ∙ omega arith in
        let high : (cond (passes from) 1 0 + 2 * later) / 2 ≡ later = ap (λ (b : Bool). (cond b 1 0 + 2 * later) / 2) e ∙ omega arith in
        ap₂ (turn k from) low high ∙ ap (λ (all : List ℕ). from ∷ all) are ∙ sym (ap (λ (b : Bool). cond b (from ∷ rows) rows) e)
    by false e are =
        let low : (cond (passes from) 1 0 + 2 * later) % 2 ≡ 0 = ap (λ (b : Bool). (cond b 1 0 + 2 * later) % 2) e ∙ omega arith in
        let high : (cond (passes from) 1 0 + 2 * later) / 2 ≡ later = ap (λ (b : Bool). (cond b 1 0 + 2 * later) / 2) e ∙ omega arith in
        ap₂ (turn k from) low high ∙ are ∙ sym (ap (λ (b : Bool). cond b (from ∷ rows) rows) e)

-- no more rows pass than there are
pub rows_few : (passes : ℕ → Bool) (from count : ℕ) → length (filter passes (range_with_len from count)) ≤ count
rows_few passes from count =
    omega (arith, length-filter passes (range_with_len from count), count_by-le-length passes (range_with_len from count), length-range_with_len from count)

module _ (from left : ℕ) (some : 0 < left) (fits : left < 2 ^ 64) where
  abbrev rest : List ℕ
  rest = set_bits 64 from (bit_and left (left - 1))

  abbrev row : ℕ
  row = from + count_trailing_zeros 64 left

  -- the next row that passes, and those after it
  pub next_row : set_bits 64 from left ≡ row ∷ rest
  next_row = lowest 64 from left some fits

  -- one row more is written
  pub row_kept : (kept whole : List ℕ) (next : ℕ) → next < length kept → take next kept ++ set_bits 64 from left ≡ whole → take (next + 1) (set kept next row) ++ rest ≡ whole
  row_kept kept whole next there had =
      ap (λ (rows : List ℕ). rows ++ rest) (take_more_set kept next row there) ∙ append_assoc (take next kept) (row ∷ []) rest
      ∙ ap (λ (rows : List ℕ). take next kept ++ rows) (sym next_row) ∙ had

  -- each of them is below what all are
  pub first_fits : (limit : ℕ) → All (λ (at : ℕ). at < limit) (set_bits 64 from left) → row < limit
  first_fits limit small = (subst (All (λ (at : ℕ). at < limit)) next_row small) 0 0 (omega arith)

  pub others_fit : (limit : ℕ) → All (λ (at : ℕ). at < limit) (set_bits 64 from left) → All (λ (at : ℕ). at < limit) rest
  others_fit limit small = All-tail (λ (at : ℕ). at < limit) row rest (subst (All (λ (at : ℕ). at < limit)) next_row small)
