-- Slots that are counted and summed.
use Rattle.std.proofs.Common.{◌≡◌, ◌≤◌, ◌<◌, ℕ, ◌+◌, ◌*◌, ℤ, Bool, true, false, FitsSigned, ◌^◌, List, Option, Some, None, length, get_or, refl, sym, ap, ◌∙◌, subst, arith}
use Rattle.std.specs.Int.{w64}
use Rattle.std.proofs.lemmas.Int.{ints}
use Rattle.std.proofs.Math.Nat.{le_trans, mul-le-mul_left}
use Rattle.std.proofs.lemmas.List.{get_or-map}
use Rattle.std.proofs.lemmas.Option.{unwrap_or-slice_get}
use Rattle.arrow_types.specs.declared.data_type.IntegerType.{IntegerType}
use Rattle.arrays.specs.Number.{byte_width}
use Rattle.arrays.specs.Integers.{IntegersAt}
use Rattle.arrays.specs.Indices.{IndicesAt}
use Rattle.arrays.specs.Layout.{layout_slot}
use Rattle.arrays.specs.declared.layout.Layout.{Layout}
use Rattle.arrays.specs.declared.layout.Layout.TheVariants.{Indices, Integers}
use Rattle.arrays.specs.Validity.{HasBits, IsLong}
use Rattle.group_slots.specs.declared.slots.Entries.{Entries}
use Rattle.group_slots.specs.declared.tally.Tally.{Tally}
use Rattle.group_slots.specs.Tallies.{summed}
use Rattle.group_slots.specs.Counting.{IsSmall}
use Rattle.group_slots.specs.Slots.{HaveRoom, entry_cell, number_or_null, slot_cell, slot_is_valid, slot_number, validity_count}
use Rattle.group_slots.specs.declared.slots.IntegerSlots.{IntegerSlots}
use Rattle.arrays.specs.Batch.{row_of}
use Rattle.arrays.specs.Column.{ColumnAt, slot_of}
use Rattle.scan_base.specs.declared.value.Value.{Value}
use Rattle.scan_base.specs.declared.value.Value.TheVariants.{Null}
use Rattle.scan_base.specs.Predicate.{cell_in}

-- a tally stays small where a slot of a number is added
pub small_slot : (tally : Tally) (valid : Bool) (number : ℤ) → FitsSigned w64 number → IsSmall tally → IsSmall (summed tally (number_or_null valid number))
small_slot tally true number fits small = record { low = omega (arith, ints, small.low); high = omega (arith, ints, small.high) }
small_slot tally false number fits small = small

-- the same, said of what stands then
pub small_after : (before after : Tally) (valid : Bool) (number : ℤ) → FitsSigned w64 number → IsSmall before →
    after ≡ summed before (number_or_null valid number) → IsSmall after
small_after before after valid number fits small is = subst IsSmall (sym is) (small_slot before valid number fits small)

-- what is added is the cell of the row
pub summed_cell : (before after : Tally) (slots : IntegerSlots) (row : ℕ) (value : Value) (valid : Bool) (number : ℤ) → after ≡ summed before (number_or_null valid number) →
    valid ≡ slot_is_valid slots row → number ≡ slot_number slots row → value ≡ slot_cell slots row → after ≡ summed before value
summed_cell before after slots row value valid number added is_valid is_number is =
    added
    ∙ ap (λ (b : Bool). summed before (number_or_null b number)) is_valid
    ∙ ap (λ (z : ℤ). summed before (number_or_null (slot_is_valid slots row) z)) is_number
    ∙ ap (summed before) (sym is)

-- a cell of a row is the slot of its column
pub cell_slot : (columns : List ColumnAt) (row key : ℕ) (d : ColumnAt) → key < length columns →
    cell_in (row_of columns row) key ≡ slot_of (get_or columns key d) row
cell_slot columns row key d there =
    unwrap_or-slice_get (row_of columns row) key Null ∙ get_or-map (λ (c : ColumnAt). slot_of c row) columns key d Null there

bits_long : (validity : Option (List Bool)) (len wanted : ℕ) → IsLong validity len → wanted ≤ len → wanted ≤ validity_count validity wanted
bits_long None len wanted long within = omega arith
bits_long (Some bits) len wanted long within = omega (arith, long, within)

bits_below : (validity : Option (List Bool)) (all below : ℕ) → below ≤ all → all ≤ validity_count validity all → HasBits validity below
bits_below None all below within room = (all, within, tt)
bits_below (Some bits) all below within room = (length bits, omega (arith, within, room), refl)

-- a row's validity bit is there, where there are bits
pub has_bit : (slots : IntegerSlots) (rows row : ℕ) → row < rows → HaveRoom slots rows → HasBits slots.validity.now (slots.first + row + 1)
has_bit slots rows row low room = bits_below slots.validity.now (slots.first + rows) (slots.first + row + 1) (omega (arith, low)) room.valid

-- the buffers of a column have room for its rows
pub room_of : (integer : IntegerType) (validity : Option (List Bool)) (values : List ℕ) (len first count : ℕ) (slots : IntegerSlots) →
    IsLong validity len → byte_width integer * len ≤ length values → first + count ≤ len → first + count < 2 ^ 64 →
    slots.kind ≡ integer → slots.validity.now ≡ validity → slots.values.now ≡ values → slots.first ≡ first → HaveRoom slots count
room_of integer validity values len first count slots long room within small is_kind is_validity is_values is_first = record {
  values = rw (is_kind, is_values, is_first) (le_trans (mul-le-mul_left (byte_width integer) within) room);
  small = rw is_first small;
  valid = rw (is_validity, is_first) (bits_long validity len (first + count) long within);
}

-- a slot of integers, by its packed number
pub integer_cell : (column : ColumnAt) (cells : IntegersAt) (slots : IntegerSlots) → column.layout ≡ Integers cells →
    slots.kind ≡ cells.integer → slots.validity.now ≡ cells.validity → slots.values.now ≡ cells.values → slots.first ≡ column.first →
    (row : ℕ) → slot_of column row ≡ slot_cell slots row
integer_cell column cells slots is is_kind is_validity is_values is_first row =
    rw (is_kind, is_validity, is_values, is_first) (ap (λ (layout : Layout). layout_slot layout (column.first + row)) is)

-- a slot of indices, by its entry
pub index_cell : (column : ColumnAt) (cells : IndicesAt) (entries : Entries) → column.layout ≡ Indices cells →
    entries.slots.kind ≡ cells.index → entries.slots.validity.now ≡ cells.validity → entries.slots.values.now ≡ cells.values →
    entries.slots.first ≡ column.first → entries.dictionary.now ≡ cells.dictionary →
    (row : ℕ) → slot_of column row ≡ entry_cell entries row
index_cell column cells entries is is_kind is_validity is_values is_first is_dictionary row =
    rw (is_kind, is_validity, is_values, is_first, is_dictionary) (ap (λ (layout : Layout). layout_slot layout (column.first + row)) is)
