-- Slots that are filled with values.
use Rattle.std.proofs.Common.{◌≡◌, ◌<◌, ◌≤◌, ◌%◌, ◌^◌, ◌+◌, ◌-◌, ◌*◌, ℕ, suc, ℤ, pos, negsuc, Bool as Truth, true, false, true≢false, rules, not, List, [], ◌∷◌, ◌++◌, length, map, take, get_or, Option, Some, FitsSigned, refl, sym, ap, subst, ◌∙◌, arith, inl, inr, append-nil, if◌then◌else◌}
use Rattle.std.specs.Int.{w128, cast_unsigned, to_le_bytes, bytes_low_first}
use Rattle.std.specs.Str.{is_utf8}
use Rattle.std.proofs.Math.Facts.{ltb_yes}
use Rattle.std.proofs.lemmas.Grind.{common_steps}
use Rattle.std.proofs.lemmas.Bool.{cases_lt, lt-ltb, le-ltb}
use Rattle.std.proofs.lemmas.List.{length-append, length-map, get_or-map, get_or_default, take_all, same_lists}
use Rattle.std.proofs.lemmas.List.FromFn.{length-map-range_with_len, get_or-map-range_with_len}
use Rattle.std.proofs.Math.Nat.{mul-le-mul_left, div-one}
use Rattle.byteorder.specs.Numbers.{length-bytes_low_first, little_from-bytes}
use Rattle.byteorder.proofs.Bytes.{take-bytes_low_first}
use Rattle.byteorder.specs.Endian.{little_from}
use Rattle.scan_base.specs.declared.value.Value.{Value}
use Rattle.scan_base.specs.declared.value.Value.TheVariants.{Null, Bool, Int, Text}
use Rattle.scan_base.specs.Value.{is_null}
use Rattle.arrow_types.specs.declared.data_type.IntegerType.{IntegerType}
use Rattle.arrow_types.specs.declared.data_type.IntegerType.TheVariants.{Int8, Int16, Int32, Int64, UInt8, UInt16, UInt32, UInt64}
use Rattle.arrow_types.specs.declared.data_type.NumberType.{NumberType}
use Rattle.arrow_types.specs.declared.data_type.Cell.{Cell}
use Rattle.arrow_types.specs.declared.data_type.Cell.TheVariants as cell
use Rattle.arrow_types.specs.declared.data_type.DataType.TheVariants as type
use Rattle.arrow_types.specs.DataType.{cell_of}
use Rattle.arrays.specs.declared.layout.Layout.{Layout}
use Rattle.arrays.specs.declared.slots.Values.TheVariants as kind
use Rattle.arrays.specs.Number.{AreBytes, cell_width, number_in, byte_width, element_at, number_from, integer_at, decimal_at, signed_from}
use Rattle.arrays.specs.Validity.{is_valid, where_valid}
use Rattle.arrays.specs.Layout.{layout_count, layout_slot}
use Rattle.arrays.specs.Column.{slot_of, values_of, whole}
use Rattle.arrays.specs.TypedLayouts.{IsInteger, FitsCell, IsValueOf}
use Rattle.array_select.specs.inside.SlotFilling.{low_bytes, AreOfType, AreValidUnlessNull, AreNumbersOf, kept_numbers, FillSlots}
use Rattle.arrays.specs.Texts.{text_at}
use Rattle.arrays.specs.WrittenSlots.{text_bytes, offsets_from, texts_joined}
use Rattle.array_select.proofs.Gathered.{front, behind}
use Rattle.array_select.proofs.GatheredTexts.{texts_made, text_made, texts_stand}

-- the value of the next slot
pub next_held : {T : Type 0} (held : T → Value) (slots : List T) (i : ℕ) (slot : T) → i < length slots → slot ≡ get_or slots i slot → held slot ≡ get_or (map held slots) i Null
next_held held slots i slot low is = ap held is ∙ sym (get_or-map held slots i slot Null low)

-- what holds of the values of the first slots, and of that of the next
pub slot_more : {T : Type 0} (P : Value → Type 0) (held : T → Value) (slots : List T) (i : ℕ) (slot : T) → i < length slots → slot ≡ get_or slots i slot → P (held slot) →
    ((k : ℕ) → k < i → P (get_or (map held slots) k Null)) → (k : ℕ) → k < i + 1 → P (get_or (map held slots) k Null)
slot_more P held slots i slot low is here so_far = λ k under. elim (cases_lt k i) [
  | inl before ↦ so_far k before
  | inr later ↦
      let e : i ≡ k = omega arith in
      subst (λ (n : ℕ). P (get_or (map held slots) n Null)) e (subst P (next_held held slots i slot low is) here)
]

-- the lowest bytes of a number of 128 bits
pub low_part : (width bits : ℕ) → width ≤ 16 → (length (take width (to_le_bytes w128 bits)) ≡ width) × (little_from 0 width (take width (to_le_bytes w128 bits)) ≡ bits % 256 ^ width)
low_part width bits few =
    let is = take-bytes_low_first 0 16 width bits few in (
      ap length is ∙ length-bytes_low_first 0 width bits,
      ap (little_from 0 width) (is ∙ sym (append-nil (bytes_low_first 0 width bits))) ∙ little_from-bytes width 0 bits [] ∙ ap (λ (n : ℕ). n % 256 ^ width) (div-one bits),
    )

-- the flag of one slot more
pub flags_more : {T : Type 0} (flag : Value → Truth) (held : T → Value) (slots : List T) (i : ℕ) (slot : T) (bits new : List Truth) (next : Truth) → i < length slots → slot ≡ get_or slots i slot →
    new ≡ bits ++ next ∷ [] → next ≡ flag (held slot) → bits ≡ map flag (map held (take i slots)) → new ≡ map flag (map held (take (i + 1) slots))
flags_more flag held slots i slot bits new next low is e next_is so_far = search (rules, common_steps)

-- the flags of all slots that are not null are their validity bits
pub flags_valid : {T : Type 0} (held : T → Value) (slots : List T) (i : ℕ) (bits new : List Truth) → length slots ≤ i → new ≡ bits →
    bits ≡ map (λ value. not (is_null value)) (map held (take i slots)) → AreValidUnlessNull (Some new) (map held slots)
flags_valid {T} held slots i bits new all e so_far =
    let is : new ≡ map (λ value. not (is_null value)) (map held slots) = e ∙ so_far ∙ ap (λ (xs : List T). map (λ value. not (is_null value)) (map held xs)) (take_all i slots all) in
    record {
      long = ap length is ∙ length-map (map held slots) (λ value. not (is_null value));
      each = λ k low. ap (λ (xs : List Truth). get_or xs k false) is ∙ get_or-map (λ value. not (is_null value)) (map held slots) k Null false low;
    }

-- one number more
pub numbers_more : (width : ℕ) (packed new part : List ℕ) (values : List Value) (i : ℕ) → new ≡ packed ++ part → length part ≡ width →
    little_from 0 width part ≡ low_bytes width (get_or values i Null) → AreNumbersOf width packed values i → AreNumbersOf width new values (i + 1)
unfolding element_at
numbers_more width packed new part values i e wide reads so_far =
    let next : width * (i + 1) ≡ width * i + width = omega arith in
    record {
      long = ap length e ∙ length-append packed part ∙ omega (arith, so_far.long, wide, next);
      each = λ k low. elim (cases_lt k i) [
        | inl before ↦
            let within = mul-le-mul_left width before in
            let step : width * (k + 1) ≡ width * k + width = omega arith in
            ap (λ (xs : List ℕ). little_from (width * k) width xs) e
            ∙ front (width * k) width packed part (omega (arith, so_far.long, within, step))
            ∙ so_far.each k before
        | inr later ↦
            let here : k ≡ i = omega arith in
            let last : width * k ≡ length packed = ap (λ (n : ℕ). width * n) here ∙ sym so_far.long in
            ap (λ (xs : List ℕ). little_from (width * k) width xs) e
            ∙ ap (λ (n : ℕ). little_from n width (packed ++ part)) last
            ∙ behind width packed part
            ∙ reads ∙ ap (λ (n : ℕ). low_bytes width (get_or values n Null)) (sym here)
      ];
    }

-- the number that bits are in two's complement
signed_is_pos : (width bits n : ℕ) → bits ≡ n → n < 2 ^ (width - 1) → signed_from width bits ≡ pos n
signed_is_pos width bits n e low = rw e (ap (λ (small : Truth). if small then pos n else negsuc (2 ^ width - suc n)) (lt-ltb n (2 ^ (width - 1)) low))

signed_is_neg : (width bits n : ℕ) → bits + suc n ≡ 2 ^ width → 2 ^ (width - 1) ≤ bits → signed_from width bits ≡ negsuc n
signed_is_neg width bits n e high =
    let less : 2 ^ width - suc bits ≡ n = omega (arith, e) in
    ap (λ (small : Truth). if small then pos bits else negsuc (2 ^ width - suc bits)) (le-ltb bits (2 ^ (width - 1)) high) ∙ ap negsuc less

-- a number of a type is read back of as many of its lowest bytes as the type has
integer_back : (integer : IntegerType) (number : ℤ) → IsInteger integer number → number_from integer (cast_unsigned w128 number % 256 ^ byte_width integer) ≡ number
integer_back Int8 (pos n) is = signed_is_pos 8 (n % 256) n (omega (arith, is.sfits)) (omega (arith, is.sfits))
integer_back Int8 (negsuc n) is = signed_is_neg 8 ((2 ^ 128 - suc n) % 256) n (omega (arith, is.sfits)) (omega (arith, is.sfits))
integer_back Int16 (pos n) is = signed_is_pos 16 (n % 65536) n (omega (arith, is.sfits)) (omega (arith, is.sfits))
integer_back Int16 (negsuc n) is = signed_is_neg 16 ((2 ^ 128 - suc n) % 65536) n (omega (arith, is.sfits)) (omega (arith, is.sfits))
integer_back Int32 (pos n) is = signed_is_pos 32 (n % 2 ^ 32) n (omega (arith, is.sfits)) (omega (arith, is.sfits))
integer_back Int32 (negsuc n) is = signed_is_neg 32 ((2 ^ 128 - suc n) % 2 ^ 32) n (omega (arith, is.sfits)) (omega (arith, is.sfits))
integer_back Int64 (pos n) is = signed_is_pos 64 (n % 2 ^ 64) n (omega (arith, is.sfits)) (omega (arith, is.sfits))
integer_back Int64 (negsuc n) is = signed_is_neg 64 ((2 ^ 128 - suc n) % 2 ^ 64) n (omega (arith, is.sfits)) (omega (arith, is.sfits))
integer_back UInt8 (pos n) is = let low : n < 2 ^ 8 = ltb_yes is.1.lt in ap pos (omega (arith, low))
integer_back UInt16 (pos n) is = let low : n < 2 ^ 16 = ltb_yes is.1.lt in ap pos (omega (arith, low))
integer_back UInt32 (pos n) is = let low : n < 2 ^ 32 = ltb_yes is.1.lt in ap pos (omega (arith, low))
integer_back UInt64 (pos n) is = let low : n < 2 ^ 64 = ltb_yes is.1.lt in ap pos (omega (arith, low))
integer_back UInt8 (negsuc n) is = absurd is.0.le
integer_back UInt16 (negsuc n) is = absurd is.0.le
integer_back UInt32 (negsuc n) is = absurd is.0.le
integer_back UInt64 (negsuc n) is = absurd is.0.le

decimal_back : (number : ℤ) → FitsSigned w128 number → signed_from 128 (cast_unsigned w128 number % 256 ^ 16) ≡ number
decimal_back (pos n) is = signed_is_pos 128 (n % 2 ^ 128) n (omega (arith, is.sfits)) (omega (arith, is.sfits))
decimal_back (negsuc n) is = signed_is_neg 128 ((2 ^ 128 - suc n) % 2 ^ 128) n (omega (arith, is.sfits)) (omega (arith, is.sfits))

-- no flag is both
pub differ : {X : Type 0} (flag : Truth) → flag ≡ true → flag ≡ false → X
differ flag set unset = absurd (true≢false (sym set ∙ unset))

number_back : (cell : Cell) (number : ℤ) → FitsCell cell number → number_in cell (cast_unsigned w128 number % 256 ^ cell_width cell) ≡ number
number_back (cell.Integer integer) number is = integer_back integer number is
number_back cell.Wide number is = decimal_back number is

-- what the bytes of a value's number are read as
number_value : (kind : NumberType) (cell : Cell) (value : Value) (bits : ℕ) → cell ≡ cell_of kind → is_null value ≡ false → IsValueOf (type.Number kind) value → bits ≡ low_bytes (cell_width cell) value →
    Int (number_in cell bits) ≡ value
number_value kind cell Null bits is some of e = differ true refl some
number_value kind cell (Int number) bits is some of e = ap Int (ap (number_in cell) e ∙ number_back cell number (subst (λ (one : Cell). FitsCell one number) (sym is) of))
number_value kind cell (Bool flag) bits is some of e = absurd of
number_value kind cell (Text bytes) bits is some of e = absurd of

-- a slot that is valid unless its value is null, and then has that value
pub slot_filled : (validity : Option (List Truth)) (f : ℕ → Value) (k : ℕ) (value : Value) → is_valid validity k ≡ not (is_null value) → (is_null value ≡ false → f k ≡ value) → where_valid validity f k ≡ value
slot_filled validity f k Null valid same = rw valid refl
slot_filled validity f k (Bool flag) valid same = rw valid (same refl)
slot_filled validity f k (Int number) valid same = rw valid (same refl)
slot_filled validity f k (Text bytes) valid same = rw valid (same refl)

pub numbers_filled : (kind : NumberType) (cell : Cell) (kept packed : List ℕ) (values : List Value) (count : ℕ) → cell ≡ cell_of kind → kept ≡ packed → AreBytes kept → length packed ≡ cell_width cell * count → length values ≡ count →
    ((k : ℕ) → k < length values → is_null (get_or values k Null) ≡ false → Int (number_in cell (element_at (cell_width cell) packed k)) ≡ get_or values k Null) →
    FillSlots (kept_numbers cell kept) (type.Number kind) values
numbers_filled kind (cell.Integer integer) kept packed values count is e bytes long many same = λ validity valid. let wide : length packed ≡ byte_width integer * count = long in record {
  stand = record { validity = valid.long; values = rw many (omega (arith, wide, ap length e)); bytes = bytes };
  count = refl;
  slots = λ k low. slot_filled validity (λ at. Int (integer_at integer kept at)) k (get_or values k Null) (valid.each k low)
      (λ some. ap (λ (xs : List ℕ). Int (integer_at integer xs k)) e ∙ same k low some);
  typed = rw (← is) refl;
}
numbers_filled kind cell.Wide kept packed values count is e bytes long many same = λ validity valid. let wide : length packed ≡ 16 * count = long in record {
  stand = record { validity = valid.long; values = rw many (omega (arith, wide, ap length e)); bytes = bytes };
  count = refl;
  slots = λ k low. slot_filled validity (λ at. Int (decimal_at kept at)) k (get_or values k Null) (valid.each k low)
      (λ some. ap (λ (xs : List ℕ). Int (decimal_at xs k)) e ∙ same k low some);
  typed = rw (← is) tt;
}

pub numbers_fill : (kind : NumberType) (cell : Cell) (kept packed : List ℕ) (values : List Value) (count : ℕ) → cell ≡ cell_of kind → kept ≡ packed → AreBytes kept → length values ≡ count →
    AreNumbersOf (cell_width cell) packed values count → AreOfType (type.Number kind) values count → FillSlots (kept_numbers cell kept) (type.Number kind) values
numbers_fill kind cell kept packed values count is e bytes many made of =
    numbers_filled kind cell kept packed values count is e bytes made.long many (λ k low some.
    let under : k < count = omega (arith, low, many) in
    number_value kind cell (get_or values k Null) (element_at (cell_width cell) packed k) is some (of k under) (made.each k under))

-- the bytes of a value that is a text
text_value : (value : Value) → is_null value ≡ false → IsValueOf type.Utf8 value → Text (text_bytes value) ≡ value
text_value Null some of = differ true refl some
text_value (Int number) some of = absurd of
text_value (Bool flag) some of = absurd of
text_value (Text bytes) some of = refl

text_utf8 : (value : Value) (valid : Truth) → IsValueOf type.Utf8 value → valid ≡ not (is_null value) → valid ≡ true → is_utf8 (text_bytes value) ≡ true
text_utf8 Null valid of is some = differ valid some is
text_utf8 (Int number) valid of is some = absurd of
text_utf8 (Bool flag) valid of is some = absurd of
text_utf8 (Text bytes) valid of is some = of

pub texts_fill : (offsets bytes made_offsets made_bytes : List ℕ) (values : List Value) (count : ℕ) → offsets ≡ made_offsets → bytes ≡ made_bytes →
    made_offsets ≡ offsets_from 0 values → made_bytes ≡ texts_joined values → length values ≡ count → length (texts_joined values) < 2 ^ 31 → AreOfType type.Utf8 values count →
    FillSlots (kind.Texts offsets bytes) type.Utf8 values
texts_fill offsets bytes made_offsets made_bytes values count a b c d many short of =
    subst (λ (xs : List ℕ). FillSlots (kind.Texts xs bytes) type.Utf8 values) (sym (a ∙ c))
    (subst (λ (xs : List ℕ). FillSlots (kind.Texts (offsets_from 0 values) xs) type.Utf8 values) (sym (b ∙ d))
    (λ validity valid. record {
      stand = texts_stand validity values valid.long short (λ k low some. text_utf8 (get_or values k Null) (is_valid validity k) (of k (omega (arith, many))) (valid.each k low) some);
      count = refl;
      slots = λ k low. slot_filled validity (λ at. Text (text_at (texts_made validity values) at)) k (get_or values k Null) (valid.each k low)
          (λ some. ap Text (text_made validity values k Null low short) ∙ text_value (get_or values k Null) some (of k (omega (arith, many))));
      typed = tt;
    }))

-- the values of a column whose slots have them
pub values_filled : (layout : Layout) (values : List Value) → layout_count layout ≡ length values → ((k : ℕ) → k < length values → layout_slot layout k ≡ get_or values k Null) →
    values_of (whole layout) ≡ values
values_filled layout values count slots =
    let long = length-map-range_with_len (slot_of (whole layout)) 0 (layout_count layout) in
    same_lists (values_of (whole layout)) values (long ∙ count)
    (λ k d lt.
    let low : k < length values = omega (arith, long, count) in
    let within : k < layout_count layout = omega (arith, low, count) in
    let z : 0 + k ≡ k = omega arith in
    get_or-map-range_with_len (slot_of (whole layout)) 0 (layout_count layout) k k d within z
    ∙ ap (layout_slot layout) z ∙ slots k low ∙ get_or_default values k Null d low)
