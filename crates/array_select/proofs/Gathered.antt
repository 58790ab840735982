-- Slots that are gathered at places.
use Rattle.std.proofs.Common.{◌≡◌, ◌≤◌, ◌<◌, ℕ, ◌+◌, ◌-◌, ◌*◌, List, [], ◌++◌, length, get_or, take, drop, slice_range, refl, zero, suc, map, Bool, false, Option, All, unwrap_or, sym, ap, ◌∙◌, arith, inl, inr}
use Rattle.std.proofs.lemmas.Bool.{cases_lt}
use Rattle.std.proofs.lemmas.List.{length-append, length-take, length-drop, length-map, get_or-map, same_lists}
use Rattle.std.proofs.lemmas.List.FromFn.{length-map-range_with_len, get_or-map-range_with_len}
use Rattle.std.proofs.Math.Seq.{drop-append_seam, take-append_seam}
use Rattle.std.proofs.Math.Nat.{mul-le-mul_left}
use Rattle.byteorder.specs.Endian.{little_from}
use Rattle.byteorder.specs.Numbers.{little_from-take}
use Rattle.bitmap.proofs.Masks.{little_drop, little_part}
use Rattle.arrays.specs.Number.{element_at, byte_width, integer_at, decimal_at, number_from, signed_from}
use Rattle.scan_base.specs.declared.value.Value.{Value}
use Rattle.scan_base.specs.declared.value.Value.TheVariants.{Null, Int, Bool as Truth}
use Rattle.arrow_types.specs.declared.data_type.IntegerType.{IntegerType}
use Rattle.arrow_types.specs.declared.data_type.DataType.{DataType}
use Rattle.arrow_types.specs.declared.data_type.Cell.{Cell}
use Rattle.arrow_types.specs.declared.data_type.Cell.TheVariants as cell
use Rattle.arrow_types.specs.declared.data_type.DataType.TheVariants as type
use Rattle.arrow_types.specs.DataType.{cell_of}
use Rattle.arrays.specs.declared.layout.Layout.{Layout}
use Rattle.arrays.specs.declared.layout.Layout.TheVariants as layout
use Rattle.arrays.specs.Validity.{is_valid, where_valid}
use Rattle.array_select.specs.Selection.{AreRising}
use Rattle.arrays.specs.Integers.{IntegersAt}
use Rattle.arrays.specs.Decimals.{DecimalsAt}
use Rattle.arrays.specs.Bools.{BoolsAt}
use Rattle.arrays.specs.Indices.{IndicesAt, AreIndices}
use Rattle.arrays.specs.Dictionary.{entry_at}
use Rattle.arrays.specs.Layout.{layout_count, layout_slot}
use Rattle.arrays.specs.TypedLayouts.{LieIn, IsOfType}
use Rattle.arrays.specs.Column.{ColumnAt, IsColumn, slot_of, values_of, whole}
use Rattle.arrays.proofs.OfType.{numbers_lie}
use Rattle.array_select.specs.inside.GatheredSlots.{AreAmong, HasElementsAt, AreValidAt, AreGathered}

-- a number in the front of some bytes, and one at their end
pub front : (at width : ℕ) (xs ys : List ℕ) → at + width ≤ length xs → little_from at width (xs ++ ys) ≡ little_from at width xs
front at width xs ys room = sym (little_from-take at width (length xs) (xs ++ ys) room) ∙ ap (little_from at width) (take-append_seam xs ys)

pub behind : (width : ℕ) (xs ys : List ℕ) → little_from (length xs) width (xs ++ ys) ≡ little_from 0 width ys
behind width xs ys =
    let e : length xs + 0 ≡ length xs = omega arith in
    ap (λ (n : ℕ). little_from n width (xs ++ ys)) (sym e) ∙ sym (little_drop (length xs) 0 width (xs ++ ys)) ∙ ap (little_from 0 width) (drop-append_seam xs ys)

-- one element more
pub elements_more : (width : ℕ) (packed new values : List ℕ) (first : ℕ) (places : List ℕ) (i place at : ℕ) → place ≡ get_or places i 0 → at ≡ width * (first + place) → at + width ≤ length values →
    new ≡ packed ++ slice_range values at (at + width) → HasElementsAt width packed values first places i → HasElementsAt width new values first places (i + 1)
unfolding element_at
elements_more width packed new values first places i place at is begins room e so_far =
    let part = slice_range values at (at + width) in
    let count : at + width - at ≡ width = omega arith in
    let wide : length part ≡ width = omega (arith, length-take (at + width - at) (drop at values), length-drop at values, room) in
    let next : width * (i + 1) ≡ width * i + width = omega arith in
    record {
      long = ap length e ∙ length-append packed part ∙ omega (arith, so_far.long, wide, next);
      each = λ k low. elim (cases_lt k i) [
        | inl before ↦
            let within = mul-le-mul_left width before in
            let step : width * (k + 1) ≡ width * k + width = omega arith in
            ap (λ (xs : List ℕ). little_from (width * k) width xs) e
            ∙ front (width * k) width packed part (omega (arith, so_far.long, within, step))
            ∙ so_far.each k before
        | inr later ↦
            let here : k ≡ i = omega arith in
            let last : width * k ≡ length packed = ap (λ (n : ℕ). width * n) here ∙ sym so_far.long in
            ap (λ (xs : List ℕ). little_from (width * k) width xs) e
            ∙ ap (λ (n : ℕ). little_from n width (packed ++ part)) last
            ∙ behind width packed part
            ∙ ap (λ (n : ℕ). little_from 0 width (take n (drop at values))) count
            ∙ little_part at width width values (omega arith)
            ∙ ap (λ (n : ℕ). little_from n width values) begins
            ∙ ap (λ (n : ℕ). little_from (width * (first + n)) width values) (is ∙ ap (λ (n : ℕ). get_or places n 0) (sym here))
      ];
    }

pub no_elements : (width : ℕ) (packed values : List ℕ) (first : ℕ) (places : List ℕ) → packed ≡ [] → HasElementsAt width packed values first places 0
no_elements width packed values first places none = record { long = ap length none ∙ omega arith; each = λ k low. absurd (omega arith) }

-- no place of those that rise is below its own number, so there are no more than slots
rising_at : (places : List ℕ) (k : ℕ) → AreRising places → k < length places → k ≤ get_or places k 0
rising_at places zero rising low = omega arith
rising_at places (suc k) rising low =
    omega (arith, rising k (suc k) (omega arith) low, rising_at places k rising (omega arith))

rising_few : (first len : ℕ) (places : List ℕ) → first ≤ len → AreRising places → ((k : ℕ) → k < length places → first + get_or places k 0 < len) → first + length places ≤ len
rising_few first len places begins rising each = by (length places) refl
  where
    by : (n : ℕ) → n ≡ length places → first + n ≤ len
    by zero e = omega (arith, begins)
    by (suc n) e = omega (arith, each n (omega arith), rising_at places n rising (omega arith))

pub places_among : (column : ColumnAt) (places : List ℕ) → IsColumn column → AreRising places → All (λ place. place < column.len) places → AreAmong column.first places (layout_count column.layout)
places_among column places is rising all =
    let each : (k : ℕ) → k < length places → column.first + get_or places k 0 < layout_count column.layout = λ k low. omega (arith, is.within, all k 0 low) in
    record { few = rising_few column.first (layout_count column.layout) places (omega (arith, is.within)) rising each; rising = rising; each = each }

-- a slot that is valid where another is, and then has its value
pub slot_is : (gathered validity : Option (List Bool)) (f g : ℕ → Value) (k at : ℕ) → is_valid gathered k ≡ is_valid validity at → f k ≡ g at → where_valid gathered f k ≡ where_valid validity g at
slot_is gathered validity f g k at valid same = rw (valid, same) refl

-- what is gathered is of the type that it was
integers_lie : (cell : Cell) (gathered cells : IntegersAt) → gathered.integer ≡ cells.integer → LieIn cell (layout.Integers cells) → LieIn cell (layout.Integers gathered)
integers_lie (cell.Integer integer) gathered cells same of = same ∙ of
integers_lie cell.Wide gathered cells same of = absurd of

integers_typed : (data_type : DataType) (gathered cells : IntegersAt) → gathered.integer ≡ cells.integer → IsOfType data_type (layout.Integers cells) → IsOfType data_type (layout.Integers gathered)
integers_typed (type.Number kind) gathered cells same of = integers_lie (cell_of kind) gathered cells same of
integers_typed data_type gathered cells same of = absurd of

decimals_lie : (cell : Cell) (gathered cells : DecimalsAt) → LieIn cell (layout.Decimals cells) → LieIn cell (layout.Decimals gathered)
decimals_lie cell.Wide gathered cells of = tt
decimals_lie (cell.Integer integer) gathered cells of = absurd of

decimals_typed : (data_type : DataType) (gathered cells : DecimalsAt) → IsOfType data_type (layout.Decimals cells) → IsOfType data_type (layout.Decimals gathered)
decimals_typed (type.Number kind) gathered cells of = decimals_lie (cell_of kind) gathered cells of
decimals_typed data_type gathered cells of = absurd of

bools_typed : (data_type : DataType) (gathered cells : BoolsAt) → IsOfType data_type (layout.Bools cells) → IsOfType data_type (layout.Bools gathered)
bools_typed type.Bool gathered cells of = tt
bools_typed (type.Number kind) gathered cells of = absurd (numbers_lie (cell_of kind) (layout.Bools cells) of)
bools_typed data_type gathered cells of = absurd of

indices_typed : (data_type : DataType) (gathered cells : IndicesAt) → IsOfType data_type (layout.Indices cells) → IsOfType data_type (layout.Indices gathered)
indices_typed (type.Dictionary encoding) gathered cells of = tt
indices_typed (type.Number kind) gathered cells of = absurd (numbers_lie (cell_of kind) (layout.Indices cells) of)
indices_typed data_type gathered cells of = absurd of

pub integers_gathered : (gathered cells : IntegersAt) (integer : IntegerType) (validity read_validity : Option (List Bool)) (values packed read_values : List ℕ) (first : ℕ) (places : List ℕ) →
    gathered ≡ record { integer = integer; validity = validity; values = values; len = length places } →
    integer ≡ cells.integer → read_validity ≡ cells.validity → values ≡ packed → read_values ≡ cells.values →
    AreValidAt validity read_validity first places → HasElementsAt (byte_width integer) packed read_values first places (length places) →
    AreGathered (layout.Integers gathered) (layout.Integers cells) first places
integers_gathered gathered cells integer validity read_validity values packed read_values first places is same_integer same_validity made same_values valid_read has_read =
    let valid = rw same_validity at valid_read in
    let has = rw (same_integer, same_values, ← made) at has_read in
    rw (is, same_integer) (record {
      count = refl;
      slots = λ k low. slot_is validity cells.validity (λ x. Int (integer_at cells.integer values x)) (λ x. Int (integer_at cells.integer cells.values x)) k (first + get_or places k 0) (valid.each k low)
          (ap (λ (bits : ℕ). Int (number_from cells.integer bits)) (has.each k low));
      typed = λ data_type of. integers_typed data_type (record { integer = cells.integer; validity = validity; values = values; len = length places }) cells refl of;
    })

pub decimals_gathered : (gathered cells : DecimalsAt) (validity read_validity : Option (List Bool)) (values packed read_values : List ℕ) (first : ℕ) (places : List ℕ) →
    gathered ≡ record { validity = validity; values = values; len = length places } →
    read_validity ≡ cells.validity → values ≡ packed → read_values ≡ cells.values →
    AreValidAt validity read_validity first places → HasElementsAt 16 packed read_values first places (length places) →
    AreGathered (layout.Decimals gathered) (layout.Decimals cells) first places
decimals_gathered gathered cells validity read_validity values packed read_values first places is same_validity made same_values valid_read has_read =
    let valid = rw same_validity at valid_read in
    let has = rw (same_values, ← made) at has_read in
    rw is (record {
      count = refl;
      slots = λ k low. slot_is validity cells.validity (λ x. Int (decimal_at values x)) (λ x. Int (decimal_at cells.values x)) k (first + get_or places k 0) (valid.each k low)
          (ap (λ (bits : ℕ). Int (signed_from 128 bits)) (has.each k low));
      typed = λ data_type of. decimals_typed data_type (record { validity = validity; values = values; len = length places }) cells of;
    })

pub bools_gathered : (gathered cells : BoolsAt) (validity read_validity : Option (List Bool)) (values read_values : List Bool) (first : ℕ) (places : List ℕ) →
    gathered ≡ record { validity = validity; values = values } → read_validity ≡ cells.validity → read_values ≡ cells.values →
    AreValidAt validity read_validity first places → values ≡ map (λ place. get_or read_values (first + place) false) places →
    AreGathered (layout.Bools gathered) (layout.Bools cells) first places
bools_gathered gathered cells validity read_validity values read_values first places is same_validity same_values valid_read picked =
    let valid = rw same_validity at valid_read in
    let bits : values ≡ map (λ place. get_or cells.values (first + place) false) places = rw same_values at picked in
    rw is (record {
      count = ap length bits ∙ length-map places (λ place. get_or cells.values (first + place) false);
      slots = λ k low. slot_is validity cells.validity (λ x. Truth (get_or values x false)) (λ x. Truth (get_or cells.values x false)) k (first + get_or places k 0) (valid.each k low)
          (ap Truth (ap (λ (all : List Bool). get_or all k false) bits ∙ get_or-map (λ place. get_or cells.values (first + place) false) places k 0 false low));
      typed = λ data_type of. bools_typed data_type (record { validity = validity; values = values }) cells of;
    })

-- the indices that were gathered
abbrev pub indices_at : IndicesAt → Option (List Bool) → List ℕ → ℕ → IndicesAt
indices_at cells validity values len = record { index = cells.index; validity = validity; values = values; dictionary = cells.dictionary; len = len }

pub indices_stand : (cells : IndicesAt) (index : IntegerType) (validity read_validity : Option (List Bool)) (values packed read_values : List ℕ) (first : ℕ) (places : List ℕ) → AreIndices cells → AreAmong first places cells.len →
    index ≡ cells.index → read_validity ≡ cells.validity → values ≡ packed → read_values ≡ cells.values →
    AreValidAt validity read_validity first places → HasElementsAt (byte_width index) packed read_values first places (length places) →
    AreIndices (indices_at cells validity values (length places))
indices_stand cells index validity read_validity values packed read_values first places are among same_index same_validity made same_values valid_read has_read =
    let valid = rw same_validity at valid_read in
    let has = rw (same_index, same_values, ← made) at has_read in
    record {
      validity = valid.long;
      values = omega (arith, has.long);
      indices = λ k low. rw (valid.each k low, has.each k low) (are.indices (first + get_or places k 0) (among.each k low));
      texts = are.texts;
    }

pub indices_gathered : (gathered cells : IndicesAt) (index : IntegerType) (validity read_validity : Option (List Bool)) (values packed read_values : List ℕ) (first : ℕ) (places : List ℕ) → gathered ≡ indices_at cells validity values (length places) →
    index ≡ cells.index → read_validity ≡ cells.validity → values ≡ packed → read_values ≡ cells.values →
    AreValidAt validity read_validity first places → HasElementsAt (byte_width index) packed read_values first places (length places) →
    AreGathered (layout.Indices gathered) (layout.Indices cells) first places
indices_gathered gathered cells index validity read_validity values packed read_values first places is same_index same_validity made same_values valid_read has_read =
    let valid = rw same_validity at valid_read in
    let has = rw (same_index, same_values, ← made) at has_read in
    rw is (record {
      count = refl;
      slots = λ k low. slot_is validity cells.validity (λ x. unwrap_or (entry_at cells.dictionary (integer_at cells.index values x)) Null) (λ x. unwrap_or (entry_at cells.dictionary (integer_at cells.index cells.values x)) Null) k (first + get_or places k 0) (valid.each k low)
          (ap (λ (bits : ℕ). unwrap_or (entry_at cells.dictionary (number_from cells.index bits)) Null) (has.each k low));
      typed = λ data_type of. indices_typed data_type (indices_at cells validity values (length places)) cells of;
    })

-- the values of slots that were gathered from a column
pub values_gathered : (gathered : Layout) (column : ColumnAt) (places : List ℕ) → AreGathered gathered column.layout column.first places →
    values_of (whole gathered) ≡ map (slot_of column) places
values_gathered gathered column places has =
    let long = length-map-range_with_len (slot_of (whole gathered)) 0 (layout_count gathered) in
    same_lists (values_of (whole gathered)) (map (slot_of column) places)
    (long ∙ has.count ∙ sym (length-map places (slot_of column)))
    (λ k d lt.
    let low : k < length places = omega (arith, long, has.count) in
    let within : k < layout_count gathered = omega (arith, low, has.count) in
    let z : 0 + k ≡ k = omega arith in
    get_or-map-range_with_len (slot_of (whole gathered)) 0 (layout_count gathered) k k d within z
    ∙ ap (layout_slot gathered) z ∙ has.slots k low ∙ sym (get_or-map (slot_of column) places k 0 d low))
