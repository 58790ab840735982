-- What loops keep that write after a list.
use Rattle.std.proofs.Common.{◌≡◌, ℕ, ◌+◌, ◌-◌, ◌*◌, ◌/◌, ◌≤◌, Bool, if◌then◌else◌, List, [], ◌∷◌, ◌++◌, length, take, drop, map, refl, sym, ap, ◌∙◌, arith}
use Rattle.std.specs.Int.{to_le_bytes, w64, div_ceil}
use Rattle.std.specs.List.{range_with_len}
use Rattle.std.specs.Result.{OnOk, is_ok}
use Rattle.std.specs.declared.result.Result.{Result}
use Rattle.std.specs.declared.result.Result.TheVariants.{Ok, Err}
use Rattle.std.specs.Simd.Lanes.{mask_l}
use Rattle.std.proofs.lemmas.List.{drop-drop, drop-take, take-take, take-append-le, length-drop, length-take, map-append}
use Rattle.bitmap.proofs.Masks.{range-append}
use Rattle.array_buffers.specs.ColumnBuffers.{packed_bits}
use Rattle.array_buffers.proofs.Packed.{word_then, short_word_bytes}

pub begins_more : (base old new part : List ℕ) → new ≡ old ++ part → take (length base) old ≡ base → take (length base) new ≡ base
begins_more base old new part e begins =
    let long = ap length begins in
    let front = length-take (length base) old in
    rw e (take-append-le (length base) old part (omega (arith, long, front)) ∙ begins)

-- what is written at last
pub on_ok_items : {E : Type 0} (result : Result (Unit {0}) E) (old new part whole : List ℕ) → new ≡ (if is_ok result then old ++ part else old) → old ++ part ≡ whole → OnOk result (new ≡ whole)
on_ok_items (Ok done) old new part whole e all = e ∙ all
on_ok_items (Err error) old new part whole e all = tt

-- the next 64 of some bits
pub word_more : (bits : List Bool) (from len word : ℕ) → from + len ≤ length bits → 64 * (word + 1) ≤ len →
    packed_bits (take (len - 64 * word) (drop (from + 64 * word) bits))
    ≡ to_le_bytes w64 (mask_l (take 64 (drop (from + 64 * word) bits))) ++ packed_bits (take (len - 64 * (word + 1)) (drop (from + 64 * (word + 1)) bits))
word_more bits from len word room more =
    let place = from + 64 * word in
    let rest = len - 64 * (word + 1) in
    let behind = drop place bits in
    let e : len - 64 * word ≡ 64 + rest = omega arith in
    let f : place + 64 ≡ from + 64 * (word + 1) = omega arith in
    let long : 64 ≤ length (take (64 + rest) behind) = omega (arith, length-take (64 + rest) behind, length-drop place bits) in
    ap (λ (n : ℕ). packed_bits (take n behind)) e
    ∙ word_then (take (64 + rest) behind) long
    ∙ ap (λ (xs : List Bool). to_le_bytes w64 (mask_l xs) ++ packed_bits (drop 64 (take (64 + rest) behind))) (take-take 64 (64 + rest) behind (omega arith))
    ∙ ap (λ (xs : List Bool). to_le_bytes w64 (mask_l (take 64 behind)) ++ packed_bits xs) (drop-take 64 rest behind ∙ ap (take rest) (drop-drop 64 place bits ∙ ap (λ (n : ℕ). drop n bits) f))

-- and the bits after the last 64
pub word_last : (bits : List Bool) (from len rest : ℕ) → from + len ≤ length bits → rest ≡ len - 64 * (len / 64) →
    packed_bits (take (len - 64 * (len / 64)) (drop (from + 64 * (len / 64)) bits))
    ≡ take (div_ceil rest 8) (to_le_bytes w64 (mask_l (take rest (drop (from + 64 * (len / 64)) bits))))
word_last bits from len rest room is =
    let behind = drop (from + 64 * (len / 64)) bits in
    let long : length (take rest behind) ≡ rest = omega (arith, length-take rest behind, length-drop (from + 64 * (len / 64)) bits) in
    ap (λ (n : ℕ). packed_bits (take n behind)) (sym is) ∙ short_word_bytes (take rest behind) (omega (arith, long))
    ∙ ap (λ (n : ℕ). take (div_ceil n 8) (to_le_bytes w64 (mask_l (take rest behind)))) long

pub range_more : {X : Type 0} (f : ℕ → X) (n : ℕ) → map f (range_with_len 0 (n + 1)) ≡ map f (range_with_len 0 n) ++ f n ∷ []
range_more f n = ap (map f) (range-append 0 n 1) ∙ map-append f (range_with_len 0 n) (range_with_len (0 + n) 1) ∙ let z : 0 + n ≡ n = omega arith in rw z refl
