-- The offsets that cut texts which stand one after another.
use Rattle.std.proofs.Common.{◌≡◌, ℕ, zero, suc, ◌+◌, ◌-◌, ◌*◌, ◌^◌, ◌<◌, ◌≤◌, List, [], ◌∷◌, ◌++◌, length, get_or, take, refl, sym, ap, ◌∙◌, arith, append-nil, append_assoc}
use Rattle.std.specs.List.{slice_range}
use Rattle.std.proofs.Math.Seq.{drop-append_seam, take-append_seam}
use Rattle.std.proofs.lemmas.List.{length-append}
use Rattle.byteorder.specs.Endian.{little_from, little_bytes}
use Rattle.byteorder.specs.Numbers.{little_number-reads_back, length-bytes_low_first}
use Rattle.bitmap.proofs.Masks.{little_drop}
use Rattle.scan_base.specs.declared.value.Value.{Value}
use Rattle.arrays.specs.Number.{element_at}
use Rattle.arrays.specs.WrittenSlots.{text_bytes, offsets_from, texts_joined}

-- what a loop keeps that writes them after others
pub out_more : (old new part rest whole : List ℕ) → new ≡ old ++ part → old ++ (part ++ rest) ≡ whole → new ++ rest ≡ whole
out_more old new part rest whole e all = ap (λ (xs : List ℕ). xs ++ rest) e ∙ append_assoc old part rest ∙ all

-- how many bytes they have
pub length-offsets : (at : ℕ) (values : List Value) → length (offsets_from at values) ≡ 4 * (length values + 1)
length-offsets at [] = length-bytes_low_first 0 4 at
length-offsets at (value ∷ values) =
    let ih = length-offsets (at + length (text_bytes value)) values in
    let both = length-append (little_bytes 4 at) (offsets_from (at + length (text_bytes value)) values) in
    omega (arith, ih, both, length-bytes_low_first 0 4 at)

-- a number read after a list
behind : (xs ys : List ℕ) (p n : ℕ) → little_from (length xs + p) n (xs ++ ys) ≡ little_from p n ys
behind xs ys p n = sym (little_drop (length xs) p n (xs ++ ys)) ∙ ap (little_from p n) (drop-append_seam xs ys)

-- offset j is how many bytes the first j texts have
pub offset_again : (values : List Value) (at j : ℕ) → j ≤ length values → at + length (texts_joined values) < 2 ^ 32 →
    element_at 4 (offsets_from at values) j ≡ at + length (texts_joined (take j values))
unfolding element_at
offset_again [] at zero low small = ap (little_from 0 4) (sym (append-nil (little_bytes 4 at))) ∙ little_number-reads_back 4 at [] (omega arith) ∙ omega arith
offset_again [] at (suc j) low small = absurd (omega arith)
offset_again (value ∷ values) at zero low small = little_number-reads_back 4 at (offsets_from (at + length (text_bytes value)) values) (omega arith) ∙ omega arith
offset_again (value ∷ values) at (suc j) low small =
    let next = at + length (text_bytes value) in
    let all = length-append (text_bytes value) (texts_joined values) in
    let front = length-append (text_bytes value) (texts_joined (take j values)) in
    let ih = offset_again values next j (omega arith) (omega (arith, all)) in
    let place : 4 * suc j ≡ length (little_bytes 4 at) + 4 * j = omega (arith, length-bytes_low_first 0 4 at) in
    ap (λ (p : ℕ). little_from p 4 (little_bytes 4 at ++ offsets_from next values)) place
    ∙ behind (little_bytes 4 at) (offsets_from next values) (4 * j) 4
    ∙ ih ∙ omega (arith, front)

-- a part after a list
part_behind : (xs ys : List ℕ) (a b : ℕ) → slice_range (xs ++ ys) (length xs + a) (length xs + b) ≡ slice_range ys a b
part_behind [] ys a b = let e : 0 + a ≡ a = omega arith in let f : 0 + b ≡ b = omega arith in rw (e, f) refl
part_behind (x ∷ xs) ys a b =
    let e : suc (length xs) + a ≡ suc (length xs + a) = omega arith in
    let f : suc (length xs) + b ≡ suc (length xs + b) = omega arith in
    let g : suc (length xs + b) - suc (length xs + a) ≡ length xs + b - (length xs + a) = omega arith in
    rw (e, f, g) (part_behind xs ys a b)

-- the offsets cut each text
pub text_again : (values : List Value) (j : ℕ) (d : Value) → j < length values →
    slice_range (texts_joined values) (length (texts_joined (take j values))) (length (texts_joined (take (j + 1) values))) ≡ text_bytes (get_or values j d)
text_again [] j d low = absurd (omega arith)
text_again (value ∷ values) zero d low =
    let long : length (text_bytes value ++ []) ≡ length (text_bytes value) = ap length (append-nil (text_bytes value)) in
    let z : length (text_bytes value) - 0 ≡ length (text_bytes value) = omega arith in
    rw (long, z) (take-append_seam (text_bytes value) (texts_joined values))
text_again (value ∷ values) (suc j) d low =
    let e : suc j + 1 ≡ suc (j + 1) = omega arith in
    let front = length-append (text_bytes value) (texts_joined (take j values)) in
    let through = length-append (text_bytes value) (texts_joined (take (j + 1) values)) in
    rw (e, front, through) (part_behind (text_bytes value) (texts_joined values) (length (texts_joined (take j values))) (length (texts_joined (take (j + 1) values))) ∙ text_again values j d (omega arith))

pub joined-le : (values : List Value) (j : ℕ) → length (texts_joined (take j values)) ≤ length (texts_joined values)
joined-le [] zero = omega arith
joined-le [] (suc j) = omega arith
joined-le (value ∷ values) zero = omega arith
joined-le (value ∷ values) (suc j) =
    let ih = joined-le values j in
    let all = length-append (text_bytes value) (texts_joined values) in
    let front = length-append (text_bytes value) (texts_joined (take j values)) in
    omega (arith, ih, all, front)

pub joined-next : (values : List Value) (j : ℕ) → length (texts_joined (take j values)) ≤ length (texts_joined (take (j + 1) values))
joined-next [] zero = omega arith
joined-next [] (suc j) = omega arith
joined-next (value ∷ values) zero = omega arith
joined-next (value ∷ values) (suc j) =
    let ih = joined-next values j in
    let e : suc j + 1 ≡ suc (j + 1) = omega arith in
    let through = length-append (text_bytes value) (texts_joined (take (j + 1) values)) in
    let front = length-append (text_bytes value) (texts_joined (take j values)) in
    rw e (omega (arith, ih, through, front))
