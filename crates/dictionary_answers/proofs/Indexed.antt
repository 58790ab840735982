-- Slots that are indices, read by their bits.
use Rattle.std.proofs.Common.{◌≡◌, ◌≤◌, ◌<◌, ◌^◌, ℕ, zero, suc, pos, negsuc, ◌+◌, ◌-◌, ◌*◌, Bool, true, false, nat_lt, List, [], ◌∷◌, length, map, get_or, is_some, refl, sym, ap, subst, ◌∙◌, arith}
use Rattle.std.specs.Prelude.{slice_get}
use Rattle.std.specs.List.{filter, range_with_len}
use Rattle.std.proofs.Math.Nat.{mul-le-mul_left}
use Rattle.std.proofs.lemmas.Option.{slice_get-get_or}
use Rattle.scan_base.specs.declared.value.Value.{Value}
use Rattle.scan_base.specs.declared.value.Value.TheVariants.{Null}
use Rattle.scan_base.specs.Value.{is_null}
use Rattle.arrow_types.specs.declared.data_type.IntegerType.{IntegerType}
use Rattle.arrow_types.specs.DataType.{bit_width, is_signed}
use Rattle.arrays.specs.Number.{byte_width, element_at, number_from}
use Rattle.arrays.specs.Validity.{is_valid}
use Rattle.arrays.specs.Dictionary.{entry_at}
use Rattle.arrays.specs.Indices.{IndicesAt, AreIndices, entry_of}
use Rattle.arrays.specs.Layout.{layout_count, layout_slot}
use Rattle.arrays.specs.Nulls.{null_count}
use Rattle.arrays.specs.Column.{ColumnAt, IsColumn, slot_of}
use Rattle.arrays.specs.declared.layout.Layout.{Layout}
use Rattle.arrays.specs.declared.layout.Layout.TheVariants as layout

-- an index that leads to a value has no sign
unsigned : (index : IntegerType) (bits : ℕ) (dictionary : List Value) → is_some (entry_at dictionary (number_from index bits)) ≡ true → number_from index bits ≡ pos bits
unsigned index bits dictionary some = by (is_signed index) refl
  where
    by : (signed : Bool) → is_signed index ≡ signed → number_from index bits ≡ pos bits
    by false e = rw e refl
    by true e = low (nat_lt bits (2 ^ (bit_width index - 1))) refl
      where
        low : (t : Bool) → nat_lt bits (2 ^ (bit_width index - 1)) ≡ t → number_from index bits ≡ pos bits
        low true f = rw (e, f) refl
        low false f = absurd (let is : is_some (entry_at dictionary (negsuc (2 ^ bit_width index - suc bits))) ≡ true = rw (e, f) at some in let no : ⊥ = cc in no)

-- the index of a valid slot is that of a value
pub led_to : (cells : IndicesAt) (slot : ℕ) → AreIndices cells → slot < cells.len → is_valid cells.validity slot ≡ true →
    (element_at (byte_width cells.index) cells.values slot < length cells.dictionary)
    × (layout_slot (layout.Indices cells) slot ≡ get_or cells.dictionary (element_at (byte_width cells.index) cells.values slot) Null)
led_to cells slot are low valid =
    let bits = element_at (byte_width cells.index) cells.values slot in
    let some : is_some (entry_of cells slot) ≡ true = rw valid at (are.indices slot low) in
    let plain : number_from cells.index bits ≡ pos bits = unsigned cells.index bits cells.dictionary some in
    let at : entry_of cells slot ≡ slice_get cells.dictionary bits = ap (entry_at cells.dictionary) plain in
    let there : is_some (slice_get cells.dictionary bits) ≡ true = sym (ap is_some at) ∙ some in
    let within : bits < length cells.dictionary = some_within cells.dictionary bits there in
    (within, rw (valid, at, slice_get-get_or cells.dictionary bits Null within) refl)
  where
    some_within : (values : List Value) (k : ℕ) → is_some (slice_get values k) ≡ true → k < length values
    some_within [] k some = absurd (let no : ⊥ = cc in no)
    some_within (value ∷ values) zero some = omega arith
    some_within (value ∷ values) (suc k) some = omega (arith, some_within values k some)

-- the same of an index that was read
pub led_read : (cells : IndicesAt) (width slot index : ℕ) (values : List ℕ) (dictionary : List Value) (value : Value) → byte_width cells.index ≡ width → values ≡ cells.values →
    dictionary ≡ cells.dictionary → AreIndices cells → slot < cells.len → is_valid cells.validity slot ≡ true → index ≡ element_at width values slot →
    layout_slot (layout.Indices cells) slot ≡ value → (index < length dictionary) × (get_or dictionary index Null ≡ value)
led_read cells width slot index values dictionary value wide packed held are low valid read there =
    let led = led_to cells slot are low valid in
    let same : index ≡ element_at (byte_width cells.index) cells.values slot =
    read ∙ ap (λ (w : ℕ). element_at w values slot) (sym wide) ∙ ap (λ (xs : List ℕ). element_at (byte_width cells.index) xs slot) packed in (
      omega (arith, led.0, same, ap length held),
      ap (λ (d : List Value). get_or d index Null) held ∙ ap (λ (k : ℕ). get_or cells.dictionary k Null) same ∙ sym led.1 ∙ there,
    )

-- there is room for it
pub room_for : (cells : IndicesAt) (width slot : ℕ) (values : List ℕ) → byte_width cells.index ≡ width → values ≡ cells.values → AreIndices cells → slot < cells.len →
    width * (slot + 1) ≤ length values
room_for cells width slot values wide packed are low =
    let under : slot + 1 ≤ cells.len = omega arith in
    let all : width * cells.len ≤ length cells.values = subst (λ (w : ℕ). w * cells.len ≤ length cells.values) wide are.values in
    omega (arith, all, ap length packed, mul-le-mul_left width under)

-- a slot that is not null is valid
pub valid_where : (cells : IndicesAt) (slot : ℕ) → is_null (layout_slot (layout.Indices cells) slot) ≡ false → is_valid cells.validity slot ≡ true
valid_where cells slot some = by (is_valid cells.validity slot) refl
  where
    by : (t : Bool) → is_valid cells.validity slot ≡ t → is_valid cells.validity slot ≡ true
    by true e = e
    by false e = absurd (let is : is_null Null ≡ false = rw e at some in let no : ⊥ = cc in no)

-- where no slot is counted as null, none is
pub none_null : (f : ℕ → Value) (a n k : ℕ) → length (filter is_null (map f (range_with_len a n))) ≡ 0 → k < n → is_null (f (a + k)) ≡ false
none_null f a zero k none low = absurd (omega arith)
none_null f a (suc n) k none low = by (is_null (f a)) refl k low (λ j is under. none_null f (a + 1) n j is under)
  where
    by : (t : Bool) → is_null (f a) ≡ t → (k : ℕ) → k < suc n →
        ((j : ℕ) → length (filter is_null (map f (range_with_len (a + 1) n))) ≡ 0 → j < n → is_null (f ((a + 1) + j)) ≡ false) → is_null (f (a + k)) ≡ false
    by true e k low more = absurd (let is : suc (length (filter is_null (map f (range_with_len (a + 1) n)))) ≡ 0 = rw e at none in omega (arith, is))
    by false e zero low more = let z : a + 0 ≡ a = omega arith in rw z e
    by false e (suc k) low more =
        let is : length (filter is_null (map f (range_with_len (a + 1) n))) ≡ 0 = rw e at none in
        let at : a + suc k ≡ (a + 1) + k = omega arith in
        rw at (more k is (omega arith))

-- a slot of a column of indices is one of the indices
pub slot_within : (column : ColumnAt) (cells : IndicesAt) (first place : ℕ) → column.layout ≡ layout.Indices cells → first ≡ column.first → IsColumn column → place < column.len →
    first + place < cells.len
slot_within column cells first place lay at is low = omega (arith, is.within, ap layout_count lay, at, low)

-- and has its value
pub slot_there : (column : ColumnAt) (cells : IndicesAt) (first place : ℕ) → column.layout ≡ layout.Indices cells → first ≡ column.first →
    layout_slot (layout.Indices cells) (first + place) ≡ slot_of column place
slot_there column cells first place lay at =
    ap (λ (l : Layout). layout_slot l (first + place)) (sym lay) ∙ ap (λ (n : ℕ). layout_slot column.layout (n + place)) at

-- the index that was read of a slot of a column without nulls leads to its value
pub index_led : (column : ColumnAt) (cells : IndicesAt) (width first place index : ℕ) (values : List ℕ) (dictionary : List Value) → column.layout ≡ layout.Indices cells →
    byte_width cells.index ≡ width → values ≡ cells.values → dictionary ≡ cells.dictionary → first ≡ column.first → AreIndices cells → IsColumn column → null_count column ≡ 0 →
    place < column.len → index ≡ element_at width values (first + place) → (index < length dictionary) × (get_or dictionary index Null ≡ slot_of column place)
index_led column cells width first place index values dictionary lay wide packed held at are is none low read =
    let there = slot_there column cells first place lay at in
    let z : 0 + place ≡ place = omega arith in
    let some : is_null (slot_of column place) ≡ false = rw z at (none_null (slot_of column) 0 column.len place none low) in
    let valid = valid_where cells (first + place) (ap is_null there ∙ some) in
    led_read cells width (first + place) index values dictionary (slot_of column place) wide packed held are (slot_within column cells first place lay at is low) valid read there
