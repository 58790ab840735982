-- Offsets of 32 bits by lanes.
use Rattle.std.proofs.Common.{◌≡◌, ℕ, zero, suc, ◌+◌, ◌-◌, ◌*◌, ◌%◌, ◌^◌, ◌<◌, ◌≤◌, ◌==◌, List, [], ◌∷◌, length, map, get_or, take, drop, drop-cons, slice_index, refl, sym, ap, ◌∙◌, arith}
use Rattle.std.specs.List.{range_with_len}
use Rattle.std.specs.Simd.Lanes.{zip2, number_l, digits_l, chunk, Each1}
use Rattle.std.proofs.lemmas.List.{same_lists, get_or_default}
use Rattle.std.proofs.lemmas.List.FromFn.{length-map-range_with_len, get_or-map-range_with_len}
use Rattle.std.proofs.lemmas.Simd.{length-chunk, Each1-chunk, Each1-from_get_or, get_or_wider, zip2_of_maps}
use Rattle.byteorder.specs.Endian.{little_from}
use Rattle.byteorder.specs.Numbers.{little_from-take}
use Rattle.bitmap.proofs.Masks.{little_drop}
use Rattle.arrays.specs.Number.{element_at}
use Rattle.kernels.specs.Tests.{tests}
use Rattle.kernels.specs.TextTests.{is_far}
use Rattle.kernels.proofs.WordRows.{same_range}

number_little : (n p : ℕ) (xs : List ℕ) → p + n ≤ length xs → number_l 256 (take n (drop p xs)) ≡ little_from p n xs
number_little zero p xs le = refl
number_little (suc n) p xs le =
    let e : drop p xs ≡ get_or xs p 0 ∷ drop (suc p) xs = drop-cons xs p 0 (omega arith) in
    rw e (ap (λ r. slice_index xs p + 256 * r) (number_little n (suc p) xs (omega arith)))

-- the lanes of a load
pub offset_lanes : (values : List ℕ) (at n : ℕ) → n ≡ 64 → at + 64 ≤ length values → ((k : ℕ) → slice_index values k < 256) →
    digits_l (2 ^ 32) 16 (number_l 256 (chunk 0 64 (take n (drop at values)))) ≡ map (λ j. little_from (at + 4 * j) 4 values) (range_with_len 0 16)
offset_lanes values at n is le fit =
    let ys = take n (drop at values) in
    let block = chunk 0 64 ys in
    let f : ℕ → ℕ = λ j. little_from (at + 4 * j) 4 values in
    let whole : length ys ≡ 64 = length-chunk at n values (omega (arith, is, le)) ∙ is in
    let full : length block ≡ 64 = length-chunk 0 64 ys (omega (arith, whole)) in
    let below : Each1 (λ (x : ℕ). x < 256) block = Each1-chunk (λ (x : ℕ). x < 256) 0 64 ys (Each1-chunk (λ (x : ℕ). x < 256) at n values (Each1-from_get_or (λ (x : ℕ). x < 256) values 0 (λ i h. fit i))) in
    let big = digits_l (2 ^ 32) 16 (number_l 256 block) in
    same_lists big (map f (range_with_len 0 16)) (sym (length-map-range_with_len f 0 16))
    (λ k d lt.
    get_or_default big k d 0 lt
    ∙ get_or_wider 256 4 (2 ^ 32) 16 block k refl below lt
    ∙ number_little 4 (4 * k) block (omega (arith, full))
    ∙ little_from-take (4 * k) 4 64 ys (omega arith)
    ∙ little_from-take (4 * k) 4 n (drop at values) (omega (arith, is))
    ∙ little_drop at (4 * k) 4 values
    ∙ sym (get_or-map-range_with_len f 0 16 k k d lt (omega arith)))

map_map : {X Y Z : Type 0} (g : Y → Z) (f : X → Y) (xs : List X) → map g (map f xs) ≡ map (λ x. g (f x)) xs
map_map g f [] = refl
map_map g f (x ∷ xs) = ap (λ r. g (f x) ∷ r) (map_map g f xs)

-- which of them are so far from the ones after
pub far_of : (offsets : List ℕ) (from far : ℕ) (begins ends : List ℕ) →
    begins ≡ map (λ j. little_from (4 * from + 4 * j) 4 offsets) (range_with_len 0 16) → ends ≡ map (λ j. little_from (4 * from + 4 + 4 * j) 4 offsets) (range_with_len 0 16) →
    map (λ z. z == far) (zip2 (λ a b. (a + (2 ^ 32 - b)) % 2 ^ 32) ends begins) ≡ tests (is_far far offsets) from 16
unfolding tests element_at
far_of offsets from far begins ends b e =
    let sub : ℕ → ℕ → ℕ = λ a c. (a + (2 ^ 32 - c)) % 2 ^ 32 in
    let g : ℕ → ℕ = λ j. little_from (4 * from + 4 + 4 * j) 4 offsets in
    let h : ℕ → ℕ = λ j. little_from (4 * from + 4 * j) 4 offsets in
    ap (map (λ z. z == far)) (zip2_of_maps sub g h (range_with_len 0 16) e b)
    ∙ map_map (λ z. z == far) (λ j. sub (g j) (h j)) (range_with_len 0 16)
    ∙ same_range (λ j. sub (g j) (h j) == far) (λ place. sub (little_from (4 * (place + 1)) 4 offsets) (little_from (4 * place) 4 offsets) == far) 0 from 16
    (λ i lt.
    let p : 4 * from + 4 + 4 * (0 + i) ≡ 4 * (from + i + 1) = omega arith in
    let q : 4 * from + 4 * (0 + i) ≡ 4 * (from + i) = omega arith in
    ap (λ x. sub (little_from x 4 offsets) (h (0 + i)) == far) p ∙ ap (λ x. sub (little_from (4 * (from + i + 1)) 4 offsets) (little_from x 4 offsets) == far) q)
