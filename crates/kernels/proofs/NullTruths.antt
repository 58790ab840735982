-- What IS NULL says of slots, by their validity bits.
use Rattle.std.proofs.Common.{◌≡◌, ℕ, zero, suc, ◌+◌, ◌<◌, ◌≤◌, Bool, true, false, not, if◌then◌else◌, List, [], ◌∷◌, length, map, get_or, Option, Some, None, refl, sym, ap, ◌∙◌, arith}
use Rattle.std.specs.List.{filter, range_with_len}
use Rattle.std.specs.Int.RustNames.{bit_xor}
use Rattle.std.proofs.lemmas.List.FromFn.{length-map-range_with_len, get_or-map-range_with_len}
use Rattle.scan_base.specs.declared.truth.Truth.TheVariants.{False}
use Rattle.scan_base.specs.declared.value.Value.{Value}
use Rattle.scan_base.specs.declared.value.Value.TheVariants.{Null}
use Rattle.scan_base.specs.Truth.{truth_from}
use Rattle.scan_base.specs.Value.{is_null}
use Rattle.arrays.specs.Validity.{is_valid}
use Rattle.kernels.specs.Nulls.{null_truth}
use Rattle.kernels.specs.Words.{bit, by_bits, row_in}
use Rattle.kernels.proofs.Bits.{xor, xor_bit, xor_true, bit_of_all}

-- ---- nulls

null_bits : (null : Bool) → by_bits null true ≡ truth_from null
null_bits true = refl
null_bits false = refl

-- a word of the validity bits turned round
pub null_rows : (validity : Option (List Bool)) (from word row : ℕ) → row < 64 → bit word row ≡ is_valid validity (from + row) →
    row_in (record { truths = bit_xor word 18446744073709551615; knowns = 18446744073709551615 }) row ≡ null_truth validity (from + row)
null_rows validity from word row lt is =
    let valid : Bool = is_valid validity (from + row) in
    ap (λ b. by_bits b (bit 18446744073709551615 row))
    (xor_bit word 18446744073709551615 row ∙ ap (λ b. xor b (bit 18446744073709551615 row)) is ∙ ap (λ b. xor valid b) (bit_of_all row lt))
    ∙ ap (λ b. by_bits (xor valid true) b) (bit_of_all row lt) ∙ ap (λ b. by_bits b true) (xor_true valid) ∙ null_bits (not valid)

none_first : (b : Bool) (value : Value) (values : List Value) → length (if b then value ∷ values else values) ≡ 0 → (b ≡ false) × (length values ≡ 0)
none_first true value values e = absurd (omega (arith, e))
none_first false value values e = (refl, e)

none_at : (values : List Value) (j : ℕ) → length (filter is_null values) ≡ 0 → j < length values → is_null (get_or values j Null) ≡ false
none_at [] j none lt = absurd (omega (arith, lt))
none_at (value ∷ values) zero none lt = (none_first (is_null value) value (filter is_null values) none).0
none_at (value ∷ values) (suc j) none lt = none_at values j (none_first (is_null value) value (filter is_null values) none).1 (omega (arith, lt))

-- where no slot is null, none at a place is
pub none_null : (slot : ℕ → Value) (len place : ℕ) → length (filter is_null (map slot (range_with_len 0 len))) ≡ 0 → place < len → truth_from (is_null (slot place)) ≡ False
none_null slot len place none lt =
    ap (λ v. truth_from (is_null v)) (sym (get_or-map-range_with_len slot 0 len place place Null lt (omega arith)))
    ∙ ap truth_from (none_at (map slot (range_with_len 0 len)) place none (omega (arith, lt, length-map-range_with_len slot 0 len)))
