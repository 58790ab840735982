-- Packed numbers of any width by lanes.
use Rattle.std.proofs.Common.{◌≡◌, ℕ, zero, suc, ◌+◌, ◌-◌, ◌*◌, ◌/◌, ◌^◌, ◌<◌, ◌≤◌, ◌==◌, Bool, false, List, [], ◌∷◌, length, map, get_or, take, drop, drop-cons, slice_index, inl, inr, refl, sym, ap, ◌∙◌, arith}
use Rattle.std.specs.List.{range_with_len}
use Rattle.std.specs.Simd.Lanes.{mask_l, number_l, digits_l, chunk, Each1}
use Rattle.std.proofs.lemmas.Bool.{ne_eqb, cases_lt}
use Rattle.std.proofs.lemmas.List.{same_lists, get_or-take, get_or_default, get_or-drop}
use Rattle.std.proofs.lemmas.List.FromFn.{length-map-range_with_len, get_or-map-range_with_len}
use Rattle.std.proofs.lemmas.Simd.{length-chunk, Each1-chunk, Each1-from_get_or, get_or_wider}
use Rattle.byteorder.specs.Endian.{little_from}
use Rattle.byteorder.specs.Numbers.{little_from-take, little_from-lt}
use Rattle.bitmap.proofs.Masks.{little_drop}
use Rattle.arrays.specs.Number.{AreBytes, element_at}
use Rattle.kernels.specs.Tests.{tests}
use Rattle.kernels.proofs.Bits.{more_tests}

number_little : (n p : ℕ) (xs : List ℕ) → p + n ≤ length xs → number_l 256 (take n (drop p xs)) ≡ little_from p n xs
number_little zero p xs le = refl
number_little (suc n) p xs le =
    let e : drop p xs ≡ get_or xs p 0 ∷ drop (suc p) xs = drop-cons xs p 0 (omega arith) in
    rw e (ap (λ r. slice_index xs p + 256 * r) (number_little n (suc p) xs (omega arith)))

length-digits : (q n x : ℕ) → length (digits_l q n x) ≡ n
length-digits q zero x = refl
length-digits q (suc n) x = ap suc (length-digits q n (x / q))

-- the lanes of a load of 64 bytes from a place on: `count` numbers of `width` bytes each
pub lanes : (width count big from at : ℕ) (values : List ℕ) → big ≡ 256 ^ width → ((k : ℕ) → k < count → width * k + width ≤ 64) →
    ((k : ℕ) → at + width * k ≡ width * (from + k)) → at + 64 ≤ length values → ((k : ℕ) → slice_index values k < 256) →
    digits_l big count (number_l 256 (chunk 0 64 (take (at + 64 - at) (drop at values)))) ≡ map (λ place. little_from (width * place) width values) (range_with_len from count)
lanes width count big from at values power inside places le fit =
    let ys = take (at + 64 - at) (drop at values) in
    let block = chunk 0 64 ys in
    let f : ℕ → ℕ = λ place. little_from (width * place) width values in
    let whole : length ys ≡ 64 = length-chunk at (at + 64 - at) values (omega arith) ∙ omega arith in
    let full : length block ≡ 64 = length-chunk 0 64 ys (omega (arith, whole)) in
    let below : Each1 (λ (x : ℕ). x < 256) block = Each1-chunk (λ (x : ℕ). x < 256) 0 64 ys (Each1-chunk (λ (x : ℕ). x < 256) at (at + 64 - at) values (Each1-from_get_or (λ (x : ℕ). x < 256) values 0 (λ i h. fit i))) in
    let big_l = digits_l big count (number_l 256 block) in
    let long : length big_l ≡ count = length-digits big count (number_l 256 block) in
    same_lists big_l (map f (range_with_len from count)) (long ∙ sym (length-map-range_with_len f from count))
    (λ k d lt.
    let low : k < count = omega (arith, lt, long) in
    let in_block = inside k low in
    get_or_default big_l k d 0 lt
    ∙ get_or_wider 256 width big count block k power below low
    ∙ number_little width (width * k) block (omega (arith, full, in_block))
    ∙ little_from-take (width * k) width 64 ys (omega (arith, in_block))
    ∙ little_from-take (width * k) width (at + 64 - at) (drop at values) (omega (arith, in_block))
    ∙ little_drop at (width * k) width values
    ∙ ap (λ x. little_from x width values) (places k)
    ∙ sym (get_or-map-range_with_len f from count k (from + k) d low refl))

-- the lanes of a load of bytes
pub byte_lanes : (from : ℕ) (values : List ℕ) → from + 64 ≤ length values →
    chunk 0 64 (take (from + 64 - from) (drop from values)) ≡ map (λ place. little_from (1 * place) 1 values) (range_with_len from 64)
byte_lanes from values le =
    let ys = take (from + 64 - from) (drop from values) in
    let block = chunk 0 64 ys in
    let f : ℕ → ℕ = λ place. little_from (1 * place) 1 values in
    let whole : length ys ≡ 64 = length-chunk from (from + 64 - from) values (omega arith) ∙ omega arith in
    let full : length block ≡ 64 = length-chunk 0 64 ys (omega (arith, whole)) in
    same_lists block (map f (range_with_len from 64)) (full ∙ sym (length-map-range_with_len f from 64))
    (λ k d lt.
    let low : k < 64 = omega (arith, lt, full) in
    let at : 1 * (from + k) ≡ from + k = omega arith in
    let one : get_or values (from + k) 0 ≡ little_from (1 * (from + k)) 1 values = rw at (omega arith) in
    get_or_default block k d 0 lt
    ∙ get_or-take 64 ys k 0 low
    ∙ get_or-take (from + 64 - from) (drop from values) k 0 (omega (arith, low))
    ∙ get_or-drop from values k 0
    ∙ one
    ∙ sym (get_or-map-range_with_len f from 64 k (from + k) d low refl))

map_map : {X Y Z : Type 0} (g : Y → Z) (f : X → Y) (xs : List X) → map g (map f xs) ≡ map (λ x. g (f x)) xs
map_map g f [] = refl
map_map g f (x ∷ xs) = ap (λ r. g (f x) ∷ r) (map_map g f xs)

-- a test of each lane
pub lane_tests : (test : ℕ → Bool) (width count from : ℕ) (values xs : List ℕ) → xs ≡ map (λ place. little_from (width * place) width values) (range_with_len from count) →
    map test xs ≡ tests (λ place. test (element_at width values place)) from count
unfolding tests element_at
lane_tests test width count from values xs e = ap (map test) e ∙ map_map test (λ place. little_from (width * place) width values) (range_with_len from count)

-- a code that is too large for an element
pub too_large : (width place code : ℕ) (values : List ℕ) → AreBytes values → 256 ^ width ≤ code → (element_at width values place == code) ≡ false
unfolding element_at
too_large width place code values bytes large =
    let small = little_from-lt (width * place) width values bytes in
    ne_eqb (little_from (width * place) width values) code (λ same. absurd (omega (arith, small, large, same)))

-- a code that does not fit
pub not_small : (code most : ℕ) → (code < most → ⊥) → most ≤ code
not_small code most wide = elim (cases_lt code most) [
  | inl low ↦ absurd (wide low)
  | inr high ↦ high
]

-- tests of a part below those of the parts that stand in a word
pub part_more : (p : ℕ → Bool) (at step above n m : ℕ) (word part : ℕ) → at + step ≡ above → step + n ≡ m →
    word ≡ mask_l (tests p above n) → part ≡ mask_l (tests p at step) → word * 2 ^ step + part ≡ mask_l (tests p at m)
part_more p at step above n m word part e f had is =
    ap (λ w. w * 2 ^ step + part) (had ∙ ap (λ a. mask_l (tests p a n)) (sym e))
    ∙ ap (λ x. mask_l (tests p (at + step) n) * 2 ^ step + x) is
    ∙ more_tests p at step n
    ∙ ap (λ k. mask_l (tests p at k)) f
