-- The validity bits of a column, byte by byte.
use Rattle.std.proofs.Common.{◌≡◌, ℕ, ◌+◌, ◌-◌, ◌*◌, ◌<◌, Bool, not, List, ◌∷◌, length, get_or, take, drop, min, refl, sym, ap, ◌∙◌, arith}
use Rattle.std.proofs.lemmas.List.{get_or-take, get_or-drop, length-take, length-drop}
use Rattle.std.proofs.lemmas.List.FromFn.{get_or-map-range_with_len}
use Rattle.scan_base.specs.Value.{is_null}
use Rattle.arrays.specs.Column.{ColumnAt, slot_of}
use Rattle.arrays.specs.Nulls.{valid_slots}
use Rattle.arrays.proofs.Entries.{dropped}
use Rattle.arrays.proofs.NullSlots.{valid_map, length-valid_slots}

-- the bits of one byte, from the last
pub byte_step : (column : ColumnAt) (byte n taken : ℕ) → 8 * byte < column.len → n ≡ min (column.len - 8 * byte) 8 → taken < n →
    drop (n - (taken + 1)) (take 8 (drop (8 * byte) (valid_slots column)))
    ≡ not (is_null (slot_of column (8 * byte + (n - 1 - taken)))) ∷ drop (n - taken) (take 8 (drop (8 * byte) (valid_slots column)))
byte_step column byte n taken some is low =
    let bits = valid_slots column in
    let eight = take 8 (drop (8 * byte) bits) in
    let i = n - (taken + 1) in
    let long : length eight ≡ n = omega (arith, length-take 8 (drop (8 * byte) bits), length-drop (8 * byte) bits, length-valid_slots column) in
    let e : i + 1 ≡ n - taken = omega arith in
    let f : 8 * byte + i ≡ 8 * byte + (n - 1 - taken) = omega arith in
    let bit = not (is_null (slot_of column (8 * byte + i))) in
    let here : get_or eight i bit ≡ bit =
    get_or-take 8 (drop (8 * byte) bits) i bit (omega arith) ∙ get_or-drop (8 * byte) bits i bit
    ∙ ap (λ (xs : List Bool). get_or xs (8 * byte + i) bit) (valid_map column)
    ∙ get_or-map-range_with_len (λ (j : ℕ). not (is_null (slot_of column j))) 0 column.len (8 * byte + i) (8 * byte + i) bit (omega arith) (omega arith) in
    dropped eight i bit (omega (arith, long)) (sym here) ∙ rw (e, f) refl

pub byte_none : (column : ColumnAt) (byte n : ℕ) → n ≡ min (column.len - 8 * byte) 8 → length (take 8 (drop (8 * byte) (valid_slots column))) ≡ n
byte_none column byte n is = omega (arith, length-take 8 (drop (8 * byte) (valid_slots column)), length-drop (8 * byte) (valid_slots column), length-valid_slots column)
