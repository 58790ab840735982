-- Packed bits, read again.
use Rattle.std.proofs.Common.{◌≡◌, ℕ, zero, suc, ◌+◌, ◌*◌, ◌/◌, ◌%◌, ◌<◌, ◌==◌, Bool, true, false, not, cond, List, [], ◌∷◌, length, map, get_or, slice_index, take, drop, Option, Some, None, nat_le, if◌then◌else◌, refl, sym, ap, ◌∙◌, arith}
use Rattle.std.specs.Int.{bit_at, div_ceil}
use Rattle.std.specs.List.{filter, range_with_len}
use Rattle.std.specs.declared.result.Result.TheVariants.{Ok}
use Rattle.std.proofs.lemmas.Bool.{le-leb}
use Rattle.std.proofs.Math.Dec.{eqb-suc-zero}
use Rattle.std.proofs.lemmas.List.{same_lists, get_or-take, get_or-drop, get_or_default}
use Rattle.std.proofs.lemmas.List.FromFn.{length-map-range_with_len, get_or-map-range_with_len}
use Rattle.std.proofs.lemmas.Simd.{bit_mask_l}
use Rattle.bitmap.specs.Bits.{bit_of, bits_of}
use Rattle.bitmap.proofs.Masks.{length-bits_of, get_or-bits_of}
use Rattle.scan_base.specs.declared.value.Value.{Value}
use Rattle.scan_base.specs.declared.value.Value.TheVariants.{Null}
use Rattle.scan_base.specs.declared.value.Value.TheVariants as value
use Rattle.scan_base.specs.Value.{is_null}
use Rattle.arrays.specs.Validity.{is_valid, where_valid, validity_of}
use Rattle.arrays.specs.Column.{ColumnAt, slot_of, values_of}
use Rattle.arrays.specs.Nulls.{null_count, valid_slots}
use Rattle.array_buffers.specs.ColumnBuffers.{packed_bits, validity_written, validity_read}
use Rattle.array_buffers.proofs.Packed.{byte_of, bits_mask}
use Rattle.arrays.proofs.NullSlots.{length-valid_slots, valid_map}
use Rattle.array_buffers.proofs.Lengths.{length-packed, some_validity}

back : (b : Bool) → (cond b 1 0 == 1) ≡ b
back true = refl
back false = refl

-- a packed bit
bit_again : (bits : List Bool) (j : ℕ) (d : Bool) → j < length bits → bit_of (packed_bits bits) j ≡ get_or bits j d
unfolding packed_bits
bit_again bits j d low =
    let k = j / 8 in
    let i = j % 8 in
    let byte : slice_index (map (byte_of bits) (range_with_len 0 (div_ceil (length bits) 8))) k ≡ byte_of bits k = get_or-map-range_with_len (byte_of bits) 0 (div_ceil (length bits) 8) k k 0 (omega arith) (omega arith) in
    let e : 8 * k + i ≡ j = omega arith in
    ap (λ (n : ℕ). bit_at n i == 1) (byte ∙ bits_mask (take 8 (drop (8 * k) bits)))
    ∙ ap (λ (n : ℕ). n == 1) (bit_mask_l (take 8 (drop (8 * k) bits)) i)
    ∙ back (get_or (take 8 (drop (8 * k) bits)) i false)
    ∙ get_or-take 8 (drop (8 * k) bits) i false (omega arith) ∙ get_or-drop (8 * k) bits i false
    ∙ ap (λ (n : ℕ). get_or bits n false) e ∙ get_or_default bits j false d low

pub bits_again : (bits : List Bool) (len : ℕ) → len ≡ length bits → bits_of (packed_bits bits) 0 len ≡ bits
bits_again bits len is =
    same_lists (bits_of (packed_bits bits) 0 len) bits (length-bits_of (packed_bits bits) 0 len ∙ is)
    (λ k d lt. let low : k < len = omega (arith, length-bits_of (packed_bits bits) 0 len) in
    let z : 0 + k ≡ k = omega arith in
    get_or-bits_of (packed_bits bits) 0 len k d low ∙ ap (bit_of (packed_bits bits)) z ∙ bit_again bits k d (omega (arith, is)))

pub room_again : (bits : List Bool) (len : ℕ) → len ≡ length bits → nat_le len (8 * length (packed_bits bits)) ≡ true
room_again bits len is = le-leb len (8 * length (packed_bits bits)) (omega (arith, length-packed bits, is))

-- the validity bits as they are read
abbrev pub validity_again : ColumnAt → Option (List Bool)
validity_again column = if null_count column == 0 then None else Some (valid_slots column)

pub read_validity : (column : ColumnAt) → validity_of (validity_read column) column.len ≡ Ok (validity_again column)
read_validity column = by (null_count column) (λ some. some_validity column some)
  where
    by : (count : ℕ) → ((count ≡ 0 → ⊥) → validity_written column ≡ packed_bits (valid_slots column)) →
        validity_of (if count == 0 then None else Some (validity_written column)) column.len ≡ Ok (if count == 0 then None else Some (valid_slots column))
    by zero some = refl
    by (suc count) some =
        let long = sym (length-valid_slots column) in
        rw (eqb-suc-zero count, some (λ none. absurd (omega arith)), room_again (valid_slots column) column.len long, bits_again (valid_slots column) column.len long) refl

-- a slot is valid again where it was
none_null : (values : List Value) (j : ℕ) (d : Value) → length (filter is_null values) ≡ 0 → j < length values → is_null (get_or values j d) ≡ false
none_null [] j d none low = absurd (omega arith)
none_null (value ∷ values) j d none low = by (is_null value) j refl none low (λ k others under. none_null values k d others under)
  where
    by : (null : Bool) (j : ℕ) → is_null value ≡ null → length (if null then value ∷ filter is_null values else filter is_null values) ≡ 0 → j < suc (length values) →
        ((k : ℕ) → length (filter is_null values) ≡ 0 → k < length values → is_null (get_or values k d) ≡ false) → is_null (get_or (value ∷ values) j d) ≡ false
    by true j e none low ih = absurd (omega arith)
    by false zero e none low ih = e
    by false (suc j) e none low ih = ih j none (omega arith)

pub valid_again : (column : ColumnAt) (j : ℕ) → j < column.len → is_valid (validity_again column) j ≡ not (is_null (slot_of column j))
valid_again column j low = by (null_count column) refl
  where
    here : get_or (values_of column) j Null ≡ slot_of column j
    here = get_or-map-range_with_len (slot_of column) 0 column.len j j Null low (omega arith)

    valid : get_or (valid_slots column) j false ≡ not (is_null (slot_of column j))
    valid = ap (λ (bits : List Bool). get_or bits j false) (valid_map column) ∙ get_or-map-range_with_len (λ (k : ℕ). not (is_null (slot_of column k))) 0 column.len j j false low (omega arith)

    by : (count : ℕ) → count ≡ null_count column → is_valid (if count == 0 then None else Some (valid_slots column)) j ≡ not (is_null (slot_of column j))
    by zero none = sym (ap not (ap is_null (sym here) ∙ none_null (values_of column) j Null (sym none) (omega (arith, length-map-range_with_len (slot_of column) 0 column.len))))
    by (suc count) some = rw (eqb-suc-zero count) valid

null_is : (value : Value) → is_null value ≡ true → value ≡ Null
null_is Null e = refl
null_is (value.Bool flag) e = absurd (let no : ⊥ = cc in no)
null_is (value.Int number) e = absurd (let no : ⊥ = cc in no)
null_is (value.Text bytes) e = absurd (let no : ⊥ = cc in no)

-- and holds what it held
pub slot_again : (column : ColumnAt) (value : ℕ → Value) (j : ℕ) → j < column.len → (is_null (slot_of column j) ≡ false → value j ≡ slot_of column j) →
    where_valid (validity_again column) value j ≡ slot_of column j
slot_again column value j low same = rw (valid_again column j low) (by (is_null (slot_of column j)) refl)
  where
    by : (null : Bool) → is_null (slot_of column j) ≡ null → (if not null then value j else Null) ≡ slot_of column j
    by true e = sym (null_is (slot_of column j) e)
    by false e = same e

-- a valid slot has its value
pub valid_value : (validity : Option (List Bool)) (value : ℕ → Value) (place : ℕ) → is_null (where_valid validity value place) ≡ false → where_valid validity value place ≡ value place
valid_value validity value place some = by (is_valid validity place) some
  where
    by : (valid : Bool) → is_null (if valid then value place else Null) ≡ false → (if valid then value place else Null) ≡ value place
    by true some = refl
    by false some = absurd (let no : ⊥ = cc in no)
