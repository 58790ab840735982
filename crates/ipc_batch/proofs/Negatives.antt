-- Negative numbers lie outside every body.
use Rattle.std.proofs.Common.{◌≡◌, ◌⊎◌, inl, inr, ℕ, ◌+◌, ◌*◌, ◌≤◌, ◌<◌, ◌^◌, ◌==◌, ◌||◌, nat_le, Bool, true, false, List, length, Option, Ok, Err, refl, arith, subst}
use Rattle.std.proofs.lemmas.Bool.{lt-leb, leb-true, eqb-true, and_parts}
use Rattle.flatbuf.proofs.Standing.{stands_within}
use Rattle.arrow_types.specs.declared.data_type.IntegerType.{IntegerType}
use Rattle.arrow_types.specs.declared.data_type.IntegerType.TheVariants.{Int8, Int16, Int32, Int64, UInt8, UInt16, UInt32, UInt64}
use Rattle.arrow_types.specs.declared.data_type.Cell.{Cell}
use Rattle.arrow_types.specs.declared.data_type.Cell.TheVariants as cell
use Rattle.arrow_types.specs.declared.data_type.DataType.{DataType}
use Rattle.arrow_types.specs.declared.data_type.DataType.TheVariants.{Number, Utf8, Bool as Flags, Dictionary}
use Rattle.arrow_types.specs.DataType.{cell_of}
use Rattle.arrow_schema.proofs.Readings.{bind_ok, demand_ok}
use Rattle.scan_base.specs.declared.value.Value.{Value}
use Rattle.arrays.specs.declared.layout.Layout.{Layout}
use Rattle.arrays.specs.Number.{byte_width}
use Rattle.arrays.specs.Validity.{validity_of}
use Rattle.arrays.specs.Integers.{integers_of}
use Rattle.arrays.specs.Decimals.{decimals_of}
use Rattle.arrays.specs.Bools.{bools_of}
use Rattle.arrays.specs.Indices.{indices_of}
use Rattle.arrays.specs.Texts.{TextsAt, texts_stand, texts_of}
use Rattle.arrays.specs.Buffers.{numbers_layout, values_layout}
use Rattle.arrays.specs.Column.{ColumnAt}
use Rattle.scan_base.specs.declared.fault.Fault.TheVariants.{BadBatch}
use Rattle.scan_base.specs.Reading.{demand}
use Rattle.arrow_schema.specs.Header.{MessageAt, body_length_of}
use Rattle.ipc_batch.specs.declared.parts.BufferPlace.{BufferPlace}
use Rattle.ipc_batch.specs.Parts.{placed_in, body_claimed}
use Rattle.ipc_batch.specs.declared.parts.FieldNode.{FieldNode}
use Rattle.ipc_batch.specs.Holds.{BatchBody, led_into, HasBytes, HoldsValues, HoldsLayout, HoldsColumn}
use Rattle.ipc_batch.specs.Laws.{NegativesLieOutside}

outside : (body : List ℕ) → length body < 2 ^ 63 → (place : BufferPlace) → (2 ^ 63 ≤ place.offset) ⊎ (2 ^ 63 ≤ place.length) → length body < place.offset + place.length
outside body small place (inl far) = omega arith
outside body small place (inr long) = omega arith

unplaced : (body : List ℕ) → length body < 2 ^ 63 → (place : BufferPlace) → (2 ^ 63 ≤ place.offset) ⊎ (2 ^ 63 ≤ place.length) → placed_in body place ≡ Err BadBatch
unplaced body small place negative = rw (lt-leb (place.offset + place.length) (length body) (outside body small place negative)) refl

unclaimed : (body : List ℕ) → length body < 2 ^ 63 → (message : MessageAt) (claimed : ℕ) → body_length_of message ≡ Ok claimed → 2 ^ 63 ≤ claimed → body_claimed message body ≡ Err BadBatch
unfolding body_claimed
unclaimed body small message claimed is negative = rw (is, lt-leb claimed (length body) (omega arith)) refl

-- ---- a slot takes a bit at least

integers_room : (integer : IntegerType) (rows n : ℕ) → byte_width integer * rows ≤ n → rows ≤ 8 * n
integers_room Int8 rows n room = omega arith
integers_room Int16 rows n room = omega arith
integers_room Int32 rows n room = omega arith
integers_room Int64 rows n room = omega arith
integers_room UInt8 rows n room = omega arith
integers_room UInt16 rows n room = omega arith
integers_room UInt32 rows n room = omega arith
integers_room UInt64 rows n room = omega arith

numbers_room : (cell : Cell) (bits : Option (List ℕ)) (packed : List ℕ) (rows : ℕ) (layout : Layout) → numbers_layout cell bits packed rows ≡ Ok layout → rows ≤ 8 * length packed
unfolding integers_of decimals_of
numbers_room (cell.Integer integer) bits packed rows layout e =
    let a = bind_ok (integers_of integer bits packed rows) _ layout e in
    let b = bind_ok (validity_of bits rows) _ a.0 a.1 in
    let c = bind_ok (demand (nat_le (byte_width integer * rows) (length packed)) BadBatch) _ a.0 b.2 in
    integers_room integer rows (length packed) (leb-true (byte_width integer * rows) (length packed) (demand_ok (nat_le (byte_width integer * rows) (length packed)) BadBatch c.0 c.1))
numbers_room cell.Wide bits packed rows layout e =
    let a = bind_ok (decimals_of bits packed rows) _ layout e in
    let b = bind_ok (validity_of bits rows) _ a.0 a.1 in
    let c = bind_ok (demand (nat_le (16 * rows) (length packed)) BadBatch) _ a.0 b.2 in
    let room = leb-true (16 * rows) (length packed) (demand_ok (nat_le (16 * rows) (length packed)) BadBatch c.0 c.1) in
    omega arith

values_room : (t : DataType) (dictionary : List Value) (bits : Option (List ℕ)) (packed : List ℕ) (rows : ℕ) (layout : Layout) → values_layout t dictionary bits packed rows ≡ Ok layout → rows ≤ 8 * length packed
unfolding values_layout bools_of indices_of
values_room (Number kind) dictionary bits packed rows layout e = numbers_room (cell_of kind) bits packed rows layout e
values_room Flags dictionary bits packed rows layout e =
    let a = bind_ok (bools_of bits packed rows) _ layout e in
    let b = bind_ok (validity_of bits rows) _ a.0 a.1 in
    let c = bind_ok (demand (nat_le rows (8 * length packed)) BadBatch) _ a.0 b.2 in
    leb-true rows (8 * length packed) (demand_ok (nat_le rows (8 * length packed)) BadBatch c.0 c.1)
values_room (Dictionary encoding) dictionary bits packed rows layout e =
    let a = bind_ok (indices_of encoding.index bits packed dictionary rows) _ layout e in
    let b = bind_ok (validity_of bits rows) _ a.0 a.1 in
    let c = bind_ok (demand (nat_le (byte_width encoding.index * rows) (length packed)) BadBatch) _ a.0 b.2 in
    integers_room encoding.index rows (length packed) (leb-true (byte_width encoding.index * rows) (length packed) (demand_ok (nat_le (byte_width encoding.index * rows) (length packed)) BadBatch c.0 c.1))
values_room Utf8 dictionary bits packed rows layout e = absurd (let no : ⊥ = cc in no)

either_true : (x y : Bool) → (x || y) ≡ true → (x ≡ true) ⊎ (y ≡ true)
either_true true y e = inl refl
either_true false y e = inr e

texts_room : (bits : Option (List ℕ)) (offsets bytes : List ℕ) (rows : ℕ) (cells : TextsAt) → texts_of bits offsets bytes rows ≡ Ok cells → rows ≤ 8 * length offsets
unfolding texts_of
texts_room bits offsets bytes rows cells e =
    let a = bind_ok (validity_of bits rows) _ cells e in
    let made : TextsAt = record { validity = a.0; offsets = offsets; bytes = bytes; len = rows } in
    let b = bind_ok (demand (texts_stand made) BadBatch) _ cells a.2 in
    elim (either_true (_) _ (demand_ok (texts_stand made) BadBatch b.0 b.1)) [
      | inl none ↦ (let z = eqb-true rows 0 (and_parts (rows == 0) (length offsets == 0) none).0 in omega arith)
      | inr stand ↦ (let r = leb-true (4 * (rows + 1)) (length offsets) (and_parts (nat_le (4 * (rows + 1)) (length offsets)) _ stand).0 in omega arith)
    ]

-- the bytes of a buffer are no more than the body has
length_within : (body : List ℕ) (found : Option BufferPlace) (bytes : List ℕ) → HasBytes body found bytes → length bytes ≤ length body
length_within body found bytes h = let e = stands_within bytes body (h.0).offset h.2.stands in omega arith

held_room : (source : BatchBody) (t : DataType) (own : ℕ → Option BufferPlace) (bits : Option (List ℕ)) (layout : Layout) → HoldsValues source t own bits layout → source.rows ≤ 8 * length source.body
held_room source t own bits layout h =
    let a = values_room t (led_into t source.dictionaries) bits h.packed source.rows layout h.slots in
    let b = length_within source.body (own 1) h.packed h.there in
    omega arith

layout_room : (source : BatchBody) (t : DataType) (own : ℕ → Option BufferPlace) (bits : Option (List ℕ)) (layout : Layout) → HoldsLayout source t own bits layout → source.rows ≤ 8 * length source.body
layout_room source Utf8 own bits layout h =
    let texts = h.2 in
    let a = texts_room bits texts.offsets texts.bytes source.rows h.0 texts.slots in
    let b = length_within source.body (own 1) texts.offsets texts.cut in
    omega arith
layout_room source (Number kind) own bits layout h = held_room source (Number kind) own bits layout h
layout_room source Flags own bits layout h = held_room source Flags own bits layout h
layout_room source (Dictionary encoding) own bits layout h = held_room source (Dictionary encoding) own bits layout h

few_rows : (body : List ℕ) (source : BatchBody) (t : DataType) (node : FieldNode) (own : ℕ → Option BufferPlace) (column : ColumnAt) →
    source.body ≡ body → length body < 2 ^ 60 → HoldsColumn source t node own column → (source.rows < 2 ^ 63) × (node.length < 2 ^ 63)
few_rows body source t node own column same small h =
    let room = layout_room source t own h.bits h.layout h.behind in
    let few = subst (λ (b : List ℕ). source.rows ≤ 8 * length b) same room in
    let long = h.long in
    (omega arith, omega arith)

pub negatives_lie_outside : NegativesLieOutside
negatives_lie_outside body small = (unplaced body small, unclaimed body small, few_rows body)
