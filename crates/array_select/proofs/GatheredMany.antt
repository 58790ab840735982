-- Slots of several columns that are gathered at places.
use Rattle.std.proofs.Common.{◌≡◌, ◌≤◌, ◌<◌, ◌+◌, ◌-◌, ◌*◌, ℕ, zero, suc, ℤ, Bool, true, false, if◌then◌else◌, not, ◌||◌, nat_lt, List, [], ◌∷◌, ◌++◌, All, length, map, take, drop, get_or, Option, None, inl, inr, refl, sym, ap, ◌∙◌, subst, arith, length-append}
use Rattle.std.specs.List.{filter}
use Rattle.std.proofs.lemmas.Bool.{cases_lt, lt-ltb}
use Rattle.std.proofs.lemmas.List.{get_or-map, length-map, length-drop, get_or_append_left, get_or-append-add, take_all, map-append}
use Rattle.std.proofs.lemmas.List.FromFn.{get_or-map-range_with_len, length-map-range_with_len}
use Rattle.std.proofs.Math.Nat.{mul-le-mul_left}
use Rattle.byteorder.specs.Endian.{little_from}
use Rattle.bitmap.proofs.Masks.{little_drop, little_part}
use Rattle.scan_base.specs.declared.value.Value.{Value}
use Rattle.scan_base.specs.declared.value.Value.TheVariants.{Null, Bool as Flag, Int, Text}
use Rattle.scan_base.specs.Value.{is_null}
use Rattle.arrow_types.specs.declared.data_type.IntegerType.{IntegerType}
use Rattle.arrow_types.specs.declared.data_type.Cell.TheVariants as cell
use Rattle.arrow_types.specs.declared.data_type.DataType.{DataType}
use Rattle.arrow_types.specs.declared.data_type.DataType.TheVariants as type
use Rattle.arrays.specs.declared.layout.Layout.{Layout}
use Rattle.arrays.specs.declared.layout.Layout.TheVariants as layout
use Rattle.arrays.specs.declared.slots.Values.TheVariants as kind
use Rattle.array_select.specs.declared.many_places.SlotPlace.{SlotPlace}
use Rattle.arrays.specs.Number.{byte_width, element_at, integer_at, decimal_at, number_from, signed_from}
use Rattle.arrays.specs.Validity.{is_valid, where_valid, IsLong}
use Rattle.arrays.specs.Integers.{IntegersAt}
use Rattle.arrays.specs.Decimals.{DecimalsAt}
use Rattle.arrays.specs.Nulls.{null_count}
use Rattle.arrays.specs.Column.{ColumnAt, IsColumn, slot_of, values_of}
use Rattle.arrays.specs.TypedLayouts.{LieIn, IsOfType, IsValueOf}
use Rattle.arrays.specs.WrittenSlots.{text_bytes, texts_joined}
use Rattle.array_select.specs.GatherMany.{value_in, IsPlaceIn}
use Rattle.array_select.specs.inside.SlotFilling.{flag_of, AreOfType, AreValidUnlessNull, FillSlots}
use Rattle.array_select.specs.inside.GatheredMany.{slot_place_at, cell_at, HasNumbers, HaveNumbers, HaveRoom, HasCellsAt}
use Rattle.array_select.proofs.Gathered.{front, behind}
use Rattle.array_select.proofs.FilledSlots.{differ, slot_filled}
use Rattle.arrays.proofs.OfType.{of_type}

-- what an item is made of, by its number
pub item_at : {T X : Type 0} (f : T → X) (xs : List T) (i : ℕ) (x : T) (other : X) → i < length xs → x ≡ get_or xs i x → f x ≡ get_or (map f xs) i other
item_at f xs i x other low is = ap f is ∙ sym (get_or-map f xs i x other low)

-- what holds of the first items, and of the next
pub all_more : {T X : Type 0} (P : X → Type 0) (f : T → X) (xs : List T) (i : ℕ) (x : T) → i < length xs → x ≡ get_or xs i x → P (f x) →
    ((k : ℕ) (other : X) → k < i → P (get_or (map f xs) k other)) → (k : ℕ) (other : X) → k < i + 1 → P (get_or (map f xs) k other)
all_more P f xs i x low is here so_far = λ k other under. elim (cases_lt k i) [
  | inl before ↦ so_far k other before
  | inr later ↦
      let e : i ≡ k = omega arith in
      subst (λ (n : ℕ). P (get_or (map f xs) n other)) e (subst P (item_at f xs i x other low is) here)
]

-- ---- the packed numbers of a column

-- a slot that is not null has its value
known : (validity : Option (List Bool)) (f : ℕ → Value) (at : ℕ) → is_null (where_valid validity f at) ≡ false → where_valid validity f at ≡ f at
known validity f at some = by (is_valid validity at) some
  where
    by : (valid : Bool) → is_null (if valid then f at else Null) ≡ false → (if valid then f at else Null) ≡ f at
    by true some = refl
    by false some = differ true refl some

-- an element from a place on
element_from : (width first k : ℕ) (values : List ℕ) → element_at width (drop (width * first) values) k ≡ element_at width values (first + k)
unfolding element_at
element_from width first k values =
    let e : width * first + width * k ≡ width * (first + k) = omega arith in
    little_drop (width * first) (width * k) width values ∙ ap (λ (n : ℕ). little_from n width values) e

room_from : (width first k len count : ℕ) (values : List ℕ) → k < len → first + len ≤ count → width * count ≤ length values →
    width * k + width ≤ length (drop (width * first) values)
room_from width first k len count values low within room =
    let under : first + k < count = omega (arith, low, within) in
    let most = mul-le-mul_left width under in
    let e : width * suc (first + k) ≡ width * first + (width * k + width) = omega arith in
    omega (arith, most, e, room, length-drop (width * first) values)

pub integers_held : (cells : IntegersAt) (integer : IntegerType) (first len : ℕ) (packed : List ℕ) → IsColumn (record { layout = layout.Integers cells; first = first; len = len }) →
    cells.integer ≡ integer → packed ≡ drop (byte_width integer * first) cells.values →
    HasNumbers (number_from integer) (byte_width integer) packed (record { layout = layout.Integers cells; first = first; len = len })
integers_held cells integer first len packed is same cut =
    rw (← same, cut, ← same) (record {
      room = λ k low. room_from (byte_width cells.integer) first k len cells.len cells.values low is.within is.stands.values;
      numbers = λ k low some. known cells.validity (λ at. Int (integer_at cells.integer cells.values at)) (first + k) some
          ∙ ap (λ (bits : ℕ). Int (number_from cells.integer bits)) (sym (element_from (byte_width cells.integer) first k cells.values));
    })

pub decimals_held : (cells : DecimalsAt) (first len : ℕ) (packed : List ℕ) → IsColumn (record { layout = layout.Decimals cells; first = first; len = len }) →
    packed ≡ drop (16 * first) cells.values → HasNumbers (signed_from 128) 16 packed (record { layout = layout.Decimals cells; first = first; len = len })
decimals_held cells first len packed is cut =
    rw cut (record {
      room = λ k low. room_from 16 first k len cells.len cells.values low is.within is.stands.values;
      numbers = λ k low some. known cells.validity (λ at. Int (decimal_at cells.values at)) (first + k) some
          ∙ ap (λ (bits : ℕ). Int (signed_from 128 bits)) (sym (element_from 16 first k cells.values));
    })

-- what is cut to the end
pub cut_is : (width first at : ℕ) (values read : List ℕ) → read ≡ values → at ≡ width * first → take (length read - at) (drop at read) ≡ drop (width * first) values
cut_is width first at values read e begins =
    take_all (length read - at) (drop at read) (omega (arith, length-drop at read)) ∙ ap (λ (n : ℕ). drop n read) begins ∙ ap (drop (width * first)) e

-- the same of a column that has such a layout
pub integers_of_column : (column : ColumnAt) (cells : IntegersAt) (integer : IntegerType) (packed : List ℕ) → column.layout ≡ layout.Integers cells → IsColumn column →
    LieIn (cell.Integer integer) column.layout → packed ≡ drop (byte_width integer * column.first) cells.values → HasNumbers (number_from integer) (byte_width integer) packed column
integers_of_column column cells integer packed known is of cut =
    subst (λ (l : Layout). HasNumbers (number_from integer) (byte_width integer) packed (record { layout = l; first = column.first; len = column.len })) (sym known)
    (integers_held cells integer column.first column.len packed (subst (λ (l : Layout). IsColumn (record { layout = l; first = column.first; len = column.len })) known is)
    (subst (LieIn (cell.Integer integer)) known of) cut)

pub decimals_of_column : (column : ColumnAt) (cells : DecimalsAt) (packed : List ℕ) → column.layout ≡ layout.Decimals cells → IsColumn column →
    packed ≡ drop (16 * column.first) cells.values → HasNumbers (signed_from 128) 16 packed column
decimals_of_column column cells packed known is cut =
    subst (λ (l : Layout). HasNumbers (signed_from 128) 16 packed (record { layout = l; first = column.first; len = column.len })) (sym known)
    (decimals_held cells column.first column.len packed (subst (λ (l : Layout). IsColumn (record { layout = l; first = column.first; len = column.len })) known is) cut)

-- ---- of several columns

pub have_none : (number : ℕ → ℤ) (width : ℕ) (sources : List (List ℕ)) (columns : List ColumnAt) → sources ≡ [] → HaveNumbers number width sources columns 0
have_none number width sources columns none = record { long = ap length none; each = λ i other low. absurd (omega (arith, low)) }

-- one column more
pub have_more : (number : ℕ → ℤ) (width : ℕ) (sources new : List (List ℕ)) (columns : List ColumnAt) (i : ℕ) (part : List ℕ) → new ≡ sources ++ part ∷ [] →
    ((other : ColumnAt) → HasNumbers number width part (get_or columns i other)) → HaveNumbers number width sources columns i → HaveNumbers number width new columns (i + 1)
have_more number width sources new columns i part e here so_far = record {
  long = ap length e ∙ length-append sources (part ∷ []) ∙ omega (arith, so_far.long);
  each = λ k other under. elim (cases_lt k i) [
    | inl before ↦
        subst (λ (cells : List ℕ). HasNumbers number width cells (get_or columns k other))
        (sym (ap (λ (xs : List (List ℕ)). get_or xs k []) e ∙ get_or_append_left sources (part ∷ []) [] k (omega (arith, so_far.long, before)))) (so_far.each k other before)
    | inr later ↦
        let same : length sources + 0 ≡ k = omega (arith, so_far.long, later, under) in
        let at : i ≡ k = omega (arith, later, under) in
        let found : get_or new k [] ≡ part = ap (λ (xs : List (List ℕ)). get_or xs k []) e ∙ ap (λ (n : ℕ). get_or (sources ++ part ∷ []) n []) (sym same) ∙ get_or-append-add sources (part ∷ []) 0 [] in
        subst (λ (cells : List ℕ). HasNumbers number width cells (get_or columns k other)) (sym found)
        (subst (λ (n : ℕ). HasNumbers number width part (get_or columns n other)) at (here other))
  ];
}

-- the next of them, as the code has it
pub have_next : {T : Type 0} {S : Type 0} (column_now : T → ColumnAt) (source_now : S → List ℕ) (number : ℕ → ℤ) (width : ℕ) (sources new : List S) (columns : List T) (i : ℕ) (part : S) (column : T) →
    i < length columns → column ≡ get_or columns i column → new ≡ sources ++ part ∷ [] → HasNumbers number width (source_now part) (column_now column) →
    HaveNumbers number width (map source_now sources) (map column_now columns) i → HaveNumbers number width (map source_now new) (map column_now columns) (i + 1)
have_next column_now source_now number width sources new columns i part column low is e here so_far =
    have_more number width (map source_now sources) (map source_now new) (map column_now columns) i (source_now part)
    (ap (map source_now) e ∙ map-append source_now sources (part ∷ []))
    (λ other. subst (HasNumbers number width (source_now part)) (item_at column_now columns i column other low is) here) so_far

-- no place
abbrev first_place : SlotPlace
first_place = record { column = 0; place = 0 }

pub room_there : (number : ℕ → ℤ) (width : ℕ) (sources : List (List ℕ)) (columns : List ColumnAt) (places : List SlotPlace) (count : ℕ) → length columns ≡ count →
    HaveNumbers number width sources columns count → All (IsPlaceIn columns) places → HaveRoom width sources places
room_there number width sources columns places count e have there = record {
  source = λ k low. omega (arith, have.long, e, (there k first_place low).column);
  room = λ k low.
      let is = there k first_place low in
      (have.each (slot_place_at places k).column _ (omega (arith, is.column, e))).room (slot_place_at places k).place is.slot;
}

-- ---- cells at places

pub no_cells : (width : ℕ) (packed : List ℕ) (sources : List (List ℕ)) (places : List SlotPlace) (validity : Option (List Bool)) → packed ≡ [] → HasCellsAt width packed sources places validity 0
no_cells width packed sources places validity none = record { long = ap length none ∙ omega arith; each = λ k low. absurd (omega (arith, low)) }

-- one cell more
pub cells_more : (width : ℕ) (packed new part : List ℕ) (sources : List (List ℕ)) (places : List SlotPlace) (validity : Option (List Bool)) (i : ℕ) → new ≡ packed ++ part → length part ≡ width →
    (is_valid validity i ≡ true → little_from 0 width part ≡ cell_at width sources places i) →
    HasCellsAt width packed sources places validity i → HasCellsAt width new sources places validity (i + 1)
unfolding element_at
cells_more width packed new part sources places validity i e wide reads so_far =
    let next : width * (i + 1) ≡ width * i + width = omega arith in
    record {
      long = ap length e ∙ length-append packed part ∙ omega (arith, so_far.long, wide, next);
      each = λ k under valid. elim (cases_lt k i) [
        | inl before ↦
            let within = mul-le-mul_left width before in
            let step : width * (k + 1) ≡ width * k + width = omega arith in
            ap (λ (xs : List ℕ). little_from (width * k) width xs) e
            ∙ front (width * k) width packed part (omega (arith, so_far.long, within, step))
            ∙ so_far.each k before valid
        | inr later ↦
            let here : k ≡ i = omega (arith, later, under) in
            let last : width * k ≡ length packed = ap (λ (n : ℕ). width * n) here ∙ sym so_far.long in
            ap (λ (xs : List ℕ). little_from (width * k) width xs) e
            ∙ ap (λ (n : ℕ). little_from n width (packed ++ part)) last
            ∙ behind width packed part
            ∙ reads (ap (is_valid validity) (sym here) ∙ valid)
            ∙ ap (cell_at width sources places) (sym here)
      ];
    }

-- the bytes of a cell are its number
pub cell_reads : (width place : ℕ) (values : List ℕ) →
    little_from 0 width (take (width * place + width - width * place) (drop (width * place) values)) ≡ element_at width values place
unfolding element_at
cell_reads width place values =
    let count : width * place + width - width * place ≡ width = omega arith in
    ap (λ (n : ℕ). little_from 0 width (take n (drop (width * place) values))) count ∙ little_part (width * place) width width values (omega arith)

-- the number of a slot that is not null
pub number_at : (number : ℕ → ℤ) (width : ℕ) (packed : List ℕ) (sources : List (List ℕ)) (columns : List ColumnAt) (places : List SlotPlace) (validity : Option (List Bool)) (count : ℕ) → length columns ≡ count →
    HaveNumbers number width sources columns count → All (IsPlaceIn columns) places → AreValidUnlessNull validity (map (value_in columns) places) →
    HasCellsAt width packed sources places validity (length places) →
    (k : ℕ) → k < length (map (value_in columns) places) → is_null (get_or (map (value_in columns) places) k Null) ≡ false →
    Int (number (element_at width packed k)) ≡ get_or (map (value_in columns) places) k Null
number_at number width packed sources columns places validity count e have there valid has k under some =
    let low : k < length places = omega (arith, under, length-map places (value_in columns)) in
    let is = there k first_place low in
    let value = get_or-map (value_in columns) places k first_place Null low in
    let held = (have.each (slot_place_at places k).column _ (omega (arith, is.column, e))).numbers (slot_place_at places k).place is.slot (ap is_null (sym value) ∙ some) in
    sym (value ∙ held ∙ ap (λ (bits : ℕ). Int (number bits)) (sym (has.each k low (valid.each k under ∙ ap not some))))

-- ---- values

-- each value is one of the type of the columns
pub values_typed : (data_type : DataType) (columns : List ColumnAt) (places : List SlotPlace) (count : ℕ) → All (λ column. IsOfType data_type column.layout) columns →
    All IsColumn columns → All (IsPlaceIn columns) places → count ≡ length places → AreOfType data_type (map (value_in columns) places) count
values_typed data_type columns places count typed stand there e k under =
    let low : k < length places = omega (arith, under, e) in
    let is = there k first_place low in
    let number = (slot_place_at places k).column in
    let column = get_or columns number _ in
    subst (IsValueOf data_type) (sym (get_or-map (value_in columns) places k first_place Null low))
    (of_type data_type column.layout column.first column.len (stand number _ is.column) (typed number _ is.column) (slot_place_at places k).place is.slot)

-- where no slot of the columns is null, each is valid
none_null : (xs : List Value) (k : ℕ) → length (filter is_null xs) ≡ 0 → k < length xs → is_null (get_or xs k Null) ≡ false
none_null [] k none low = absurd (omega (arith, low))
none_null (Null ∷ xs) k none low = absurd (omega (arith, none))
none_null (Flag flag ∷ xs) zero none low = refl
none_null (Int number ∷ xs) zero none low = refl
none_null (Text bytes ∷ xs) zero none low = refl
none_null (Flag flag ∷ xs) (suc k) none low = none_null xs k none (omega (arith, low))
none_null (Int number ∷ xs) (suc k) none low = none_null xs k none (omega (arith, low))
none_null (Text bytes ∷ xs) (suc k) none low = none_null xs k none (omega (arith, low))

pub all_valid : (columns : List ColumnAt) (places : List SlotPlace) → All (λ column. null_count column ≡ 0) columns → All (IsPlaceIn columns) places →
    AreValidUnlessNull None (map (value_in columns) places)
all_valid columns places none there = record {
  long = tt;
  each = λ k under.
      let low : k < length places = omega (arith, under, length-map places (value_in columns)) in
      let is = there k first_place low in
      let number = (slot_place_at places k).column in
      let place = (slot_place_at places k).place in
      let column = get_or columns number _ in
      let value = get_or-map (value_in columns) places k first_place Null low in
      let slot = get_or-map-range_with_len (slot_of column) 0 column.len place place Null is.slot (omega arith) in
      let wide = length-map-range_with_len (slot_of column) 0 column.len in
      let some = none_null (values_of column) place (none number _ is.column) (omega (arith, wide, is.slot)) in
      sym (ap (λ (v : Value). not (is_null v)) (value ∙ sym slot) ∙ ap not some);
}

-- the validity bits are those of all places
pub valid_long : (columns : List ColumnAt) (places : List SlotPlace) (validity : Option (List Bool)) → AreValidUnlessNull validity (map (value_in columns) places) → IsLong validity (length places)
valid_long columns places validity valid = subst (IsLong validity) (length-map places (value_in columns)) valid.long

-- where none of so many is null, and none was before
pub none_counted : (nulls : Bool) (n : ℕ) → (nulls || nat_lt 0 n) ≡ false → (nulls ≡ false) × (n ≡ 0)
none_counted true n e = differ true refl e
none_counted false n e = elim (cases_lt 0 n) [ inl some ↦ differ (nat_lt 0 n) (lt-ltb 0 n some) e | inr none ↦ (refl, omega (arith, none)) ]

-- a flag is the value
flag_value : (value : Value) → is_null value ≡ false → IsValueOf type.Bool value → Flag (flag_of value) ≡ value
flag_value Null some of = differ true refl some
flag_value (Flag flag) some of = refl
flag_value (Int number) some of = absurd of
flag_value (Text bytes) some of = absurd of

pub flags_filled : (bits : List Bool) (values : List Value) (count : ℕ) → bits ≡ map flag_of values → count ≡ length values → AreOfType type.Bool values count → FillSlots (kind.Bools bits) type.Bool values
flags_filled bits values count e many of = λ validity valid.
    let long : length bits ≡ length values = ap length e ∙ length-map values flag_of in
    record {
      stand = subst (IsLong validity) (sym long) valid.long;
      count = long;
      slots = λ k low. slot_filled validity (λ at. Flag (get_or bits at false)) k (get_or values k Null) (valid.each k low)
          (λ some. ap Flag (ap (λ (all : List Bool). get_or all k false) e ∙ get_or-map flag_of values k Null false low)
          ∙ flag_value (get_or values k Null) some (of k (omega (arith, many, low))));
      typed = tt;
    }

-- where the texts of the first values leave less than the next one has, all have too many bytes
pub past_values : (values : List Value) (i left : ℕ) → i < length values → left < length (text_bytes (get_or values i Null)) →
    length (texts_joined (take i values)) + left < length (texts_joined values)
past_values [] i left low less = absurd (omega (arith, low))
past_values (value ∷ values) zero left low less =
    let long = length-append (text_bytes value) (texts_joined values) in
    omega (arith, long, less)
past_values (value ∷ values) (suc i) left low less =
    let long = length-append (text_bytes value) (texts_joined values) in
    let before = length-append (text_bytes value) (texts_joined (take i values)) in
    omega (arith, long, before, past_values values i left (omega (arith, low)) less)
