-- Numbers of 32 bits in bytes.
use Rattle.std.proofs.Common.{◌≡◌, ◌≢◌, ◌≤◌, ◌<◌, ◌^◌, ℕ, ◌+◌, ◌-◌, ◌*◌, ◌/◌, List, [], ◌++◌, length, set, take, drop, get_or, append_assoc, append-nil, sym, ap, ◌∙◌, inl, inr, arith}
use Rattle.std.proofs.Math.Seq.{drop-append_seam, drop-drop, drop_at}
use borrow.Rule.Slice.PartMut.{mid_of, put_mid}
use Rattle.std.proofs.lemmas.Bool.{cases_eq, cases_lt}
use Rattle.std.proofs.lemmas.List.{ext_get_or, take_all, drop_all, take_at, length-append, length-drop, length-take-le, length-set, get_or-set_same, get_or-set_other}
use Rattle.std.proofs.lemmas.List.FromFn.{length-map-range_with_len, get_or-map-range_with_len}
use Rattle.byteorder.specs.Endian.{little_from, little_bytes}
use Rattle.byteorder.specs.Numbers.{little_from-take, little_number-reads_back, length-bytes_low_first}
use Rattle.bitmap.proofs.Masks.{little_drop}
use Rattle.arrays.specs.Number.{element_at}
use Rattle.dictionary_answers.specs.inside.PackedPlaces.{numbers_in}

-- there is a number for each four bytes
pub length-numbers : (bytes : List ℕ) → length (numbers_in bytes) ≡ length bytes / 4
unfolding numbers_in
length-numbers bytes = length-map-range_with_len (λ k. element_at 4 bytes k) 0 (length bytes / 4)

pub get_or-numbers : (bytes : List ℕ) (k : ℕ) → k < length bytes / 4 → get_or (numbers_in bytes) k 0 ≡ element_at 4 bytes k
unfolding numbers_in
get_or-numbers bytes k low = get_or-map-range_with_len (λ k. element_at 4 bytes k) 0 (length bytes / 4) k k 0 low (omega arith)

-- bytes that differ in one number alone
same_before : (bytes after : List ℕ) (k j : ℕ) → take (4 * k) after ≡ take (4 * k) bytes → j < k → element_at 4 after j ≡ element_at 4 bytes j
unfolding element_at
same_before bytes after k j same low =
    sym (little_from-take (4 * j) 4 (4 * k) after (omega arith)) ∙ ap (little_from (4 * j) 4) same ∙ little_from-take (4 * j) 4 (4 * k) bytes (omega arith)

same_behind : (bytes after : List ℕ) (k more : ℕ) → drop (4 * k + 4) after ≡ drop (4 * k + 4) bytes → element_at 4 after (k + 1 + more) ≡ element_at 4 bytes (k + 1 + more)
unfolding element_at
same_behind bytes after k more same =
    let e : 4 * (k + 1 + more) ≡ (4 * k + 4) + 4 * more = omega arith in
    rw e (sym (little_drop (4 * k + 4) (4 * more) 4 after) ∙ ap (little_from (4 * more) 4) same ∙ little_drop (4 * k + 4) (4 * more) 4 bytes)

same_other : (bytes after : List ℕ) (k j : ℕ) → take (4 * k) after ≡ take (4 * k) bytes → drop (4 * k + 4) after ≡ drop (4 * k + 4) bytes → j ≢ k → element_at 4 after j ≡ element_at 4 bytes j
same_other bytes after k j front back other = elim (cases_lt j k) [
  | inl low ↦ same_before bytes after k j front low
  | inr high ↦
      let more : ℕ = j - (k + 1) in
      let e : j ≡ k + 1 + more = omega arith in
      rw e (same_behind bytes after k more back)
]

-- bytes where a number is put in the stead of another
put_at : (bytes after : List ℕ) (k number : ℕ) → k < length bytes / 4 → length after ≡ length bytes → take (4 * k) after ≡ take (4 * k) bytes →
    drop (4 * k + 4) after ≡ drop (4 * k + 4) bytes → element_at 4 after k ≡ number → numbers_in after ≡ set (numbers_in bytes) k number
put_at bytes after k number low long front back here =
    let many : length after / 4 ≡ length bytes / 4 = ap (λ (n : ℕ). n / 4) long in
    let count = length-numbers bytes in
    ext_get_or 0 (numbers_in after) (set (numbers_in bytes) k number)
    (length-numbers after ∙ many ∙ sym count ∙ sym (length-set (numbers_in bytes) k number))
    (λ j under.
    let within : j < length after / 4 = omega (arith, length-numbers after, under) in
    get_or-numbers after j within ∙ elim (cases_eq j k) [
      | inl same ↦ rw same (here ∙ sym (get_or-set_same (numbers_in bytes) k number 0 (omega (arith, count, low))))
      | inr other ↦
          same_other bytes after k j front back other ∙ sym (get_or-numbers bytes j (omega (arith, many, within)))
          ∙ sym (get_or-set_other (numbers_in bytes) k j number 0 other)
    ])

-- ---- numbers that are packed

-- a number read after a list
behind : (xs ys : List ℕ) (p n : ℕ) → little_from (length xs + p) n (xs ++ ys) ≡ little_from p n ys
behind xs ys p n = sym (little_drop (length xs) p n (xs ++ ys)) ∙ ap (little_from p n) (drop-append_seam xs ys)

-- a number that was written after a list
pub number_behind : (front rest : List ℕ) (k number : ℕ) → length front ≡ 4 * k → number < 2 ^ 32 → element_at 4 (front ++ (little_bytes 4 number ++ rest)) k ≡ number
unfolding element_at
number_behind front rest k number long small =
    let e : 4 * k ≡ length front + 0 = omega (arith, long) in
    rw e (behind front (little_bytes 4 number ++ rest) 0 4) ∙ little_number-reads_back 4 number rest small

-- a number is put in the stead of another
put_bytes : (bytes : List ℕ) (k number : ℕ) → 4 * (k + 1) ≤ length bytes → number < 2 ^ 32 →
    numbers_in (take (4 * k) bytes ++ (little_bytes 4 number ++ drop (4 * k + 4) bytes)) ≡ set (numbers_in bytes) k number
put_bytes bytes k number room small =
    let front : List ℕ = take (4 * k) bytes in
    let own : List ℕ = little_bytes 4 number in
    let rest : List ℕ = drop (4 * k + 4) bytes in
    let before : length front ≡ 4 * k = length-take-le (4 * k) bytes (omega arith) in
    let four : length own ≡ 4 = length-bytes_low_first 0 4 number in
    let both : length (front ++ own) ≡ 4 * k + 4 = omega (arith, length-append front own, before, four) in
    put_at bytes (front ++ (own ++ rest)) k number (omega (arith, room))
    (omega (arith, length-append front (own ++ rest), length-append own rest, before, four, length-drop (4 * k + 4) bytes, room))
    (take_at front (own ++ rest) (4 * k) before)
    (ap (drop (4 * k + 4)) (sym (append_assoc front own rest)) ∙ drop_at (front ++ own) rest (4 * k + 4) both)
    (number_behind front rest k number before small)

-- the same, as a slice of the bytes is written
pub numbers_put : (bytes part : List ℕ) (k n number : ℕ) → 4 * (k + 1) ≤ length bytes → n ≡ length bytes - 4 * k → number < 2 ^ 32 →
    part ≡ little_bytes 4 number ++ drop 4 (mid_of (4 * k) n bytes) → numbers_in (put_mid (4 * k) n bytes part) ≡ set (numbers_in bytes) k number
numbers_put bytes part k n number room many small is =
    let all : mid_of (4 * k) n bytes ≡ drop (4 * k) bytes = take_all n (drop (4 * k) bytes) (omega (arith, length-drop (4 * k) bytes, many)) in
    let none : drop n (drop (4 * k) bytes) ≡ [] = drop_all n (drop (4 * k) bytes) (omega (arith, length-drop (4 * k) bytes, many)) in
    let own : part ≡ little_bytes 4 number ++ drop (4 * k + 4) bytes = is ∙ ap (λ (xs : List ℕ). little_bytes 4 number ++ drop 4 xs) all
    ∙ ap (λ (xs : List ℕ). little_bytes 4 number ++ xs) (drop-drop 4 (4 * k) bytes) in
    ap (λ (xs : List ℕ). numbers_in (take (4 * k) bytes ++ (part ++ xs))) none
    ∙ ap (λ (xs : List ℕ). numbers_in (take (4 * k) bytes ++ xs)) (append-nil part ∙ own)
    ∙ put_bytes bytes k number room small

-- bytes that were written as one slice
pub written_back : (n : ℕ) (new items : List ℕ) → length items ≡ n → length new ≡ length items → take n (new ++ drop (length new) items) ≡ new
written_back n new items long same =
    rw (drop_all (length new) items (omega (arith, same)), append-nil new) (take_all n new (omega (arith, same, long)))
