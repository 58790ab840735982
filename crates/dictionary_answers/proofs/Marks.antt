-- Lists of places where a mark stands for none.
use Rattle.std.proofs.Common.{◌≡◌, ◌≢◌, ◌≤◌, ◌<◌, ℕ, zero, suc, pos, ◌+◌, ◌/◌, ◌||◌, not, Bool, true, false, List, [], ◌∷◌, length, map, get_or, set, nat_eq, Option, Some, None, is_some, unwrap_or, refl, sym, ap, ◌∙◌, arith}
use Rattle.std.specs.List.{list_any}
use Rattle.std.proofs.lemmas.Bool.{ne_eqb}
use Rattle.std.proofs.lemmas.List.{length-map, get_or-map, get_or_default}
use Rattle.std.proofs.lemmas.List.FromFn.{length-map-range_with_len, get_or-map-range_with_len}
use Rattle.byteorder.specs.Endian.{IsMapped}
use Rattle.byteorder.proofs.Slices.{MappedTo, mapped_all, mapped_more}
use Rattle.arrow_types.specs.declared.data_type.IntegerType.TheVariants.{Int32}
use Rattle.arrays.specs.Number.{element_at, integer_at, number_from}
use Rattle.scan_base.specs.declared.value.Value.{Value}
use Rattle.scan_base.specs.declared.value.Value.TheVariants.{Null}
use Rattle.scan_base.specs.Value.{is_null}
use Rattle.arrays.specs.Column.{ColumnAt, slot_of, values_of}
use Rattle.arrays.specs.Nulls.{null_count}
use Rattle.dictionary_answers.specs.Firsts.{AreLed, Leads}
use Rattle.dictionary_answers.specs.inside.CodedTexts.{held, no_place}
use Rattle.dictionary_answers.specs.inside.PackedPlaces.{numbers_in, ArePacked, AreValidWhereSome}
use Rattle.dictionary_answers.proofs.Indexed.{none_null}
use Rattle.dictionary_answers.proofs.IndicesMade.{led_at, plain}
use Rattle.dictionary_answers.proofs.Numbers.{length-numbers, get_or-numbers}
use Rattle.std.specs.Prelude.{if◌then◌else◌}

-- a number in a list of places, as it is packed
abbrev pub shown : ℕ → ℕ
shown number = if nat_eq number no_place then 0 else number

-- a number is a place where it is not the mark
pub held_where : (number : ℕ) → is_some (held number) ≡ not (nat_eq number no_place)
held_where number = by (nat_eq number no_place) refl
  where
    by : (t : Bool) → nat_eq number no_place ≡ t → is_some (held number) ≡ not (nat_eq number no_place)
    by true e = rw e refl
    by false e = rw e refl

-- what is packed of a number
pub shown_is : (number : ℕ) → shown number ≡ unwrap_or (held number) 0
shown_is number = by (nat_eq number no_place) refl
  where
    by : (t : Bool) → nat_eq number no_place ≡ t → shown number ≡ unwrap_or (held number) 0
    by true e = rw e refl
    by false e = rw e refl

-- a place is shown as it is
shown_plain : (number : ℕ) → is_some (held number) ≡ true → shown number ≡ number
shown_plain number some = by (nat_eq number no_place) refl
  where
    by : (t : Bool) → nat_eq number no_place ≡ t → shown number ≡ number
    by true e = absurd (let is : ◌≡◌ {A = Bool} false true = rw e at some in let no : ⊥ = cc in no)
    by false e = rw e refl

-- numbers are packed where each is shown
pub packed_shown : (old new : List ℕ) → IsMapped shown (numbers_in old) (numbers_in new) → ArePacked new (map held (numbers_in old))
packed_shown old new mapped =
    let long : length (map held (numbers_in old)) ≡ length new / 4 = length-map (numbers_in old) held ∙ sym mapped.0 ∙ length-numbers new in
    record {
      long = long;
      each = λ k low.
          let under : k < length (numbers_in old) = omega (arith, length-map (numbers_in old) held, low) in
          sym (get_or-numbers new k (omega (arith, long, low))) ∙ mapped.1 0 k under ∙ shown_is (get_or (numbers_in old) k 0)
          ∙ ap (λ (place : Option ℕ). unwrap_or place 0) (sym (get_or-map held (numbers_in old) k 0 None under));
    }

-- numbers none of which is the mark are packed as they are
pub packed_plain : (bytes : List ℕ) → AreValidWhereSome None (map held (numbers_in bytes)) → ArePacked bytes (map held (numbers_in bytes))
packed_plain bytes valid =
    let numbers : List ℕ = numbers_in bytes in
    packed_shown bytes bytes (
      refl,
      (λ d k low.
          let some : is_some (held (get_or numbers k d)) ≡ true =
          ap is_some (sym (get_or-map held numbers k d None low)) ∙ sym (valid.each k (omega (arith, length-map numbers held, low))) in
          sym (shown_plain (get_or numbers k d) some)),
    )

-- one number more is shown
pub shown_more : (old : List ℕ) (bytes after : List ℕ) (slot number put : ℕ) → slot < length bytes / 4 → number ≡ element_at 4 bytes slot → put ≡ shown number →
    numbers_in after ≡ set (numbers_in bytes) slot put → MappedTo shown old (numbers_in bytes) slot → MappedTo shown old (numbers_in after) (slot + 1)
shown_more old bytes after slot number put low read made is before =
    let fits : slot < length (numbers_in bytes) = omega (arith, length-numbers bytes, low) in
    rw is (mapped_more shown old (numbers_in bytes) slot put number fits
    (read ∙ sym (get_or-numbers bytes slot low) ∙ get_or_default (numbers_in bytes) slot 0 number fits) made before)

-- all are shown
pub shown_all : (old new : List ℕ) (slot : ℕ) → length old / 4 ≤ slot → MappedTo shown (numbers_in old) (numbers_in new) slot → ArePacked new (map held (numbers_in old))
shown_all old new slot high before =
    packed_shown old new (mapped_all shown (numbers_in old) (numbers_in new) slot (omega (arith, length-numbers old, high)) before)

pub shown_mark : (number : ℕ) → number ≡ no_place → shown number ≡ 0
shown_mark number is = rw is refl

pub shown_place : (number : ℕ) → number ≢ no_place → shown number ≡ number
shown_place number other = rw (ne_eqb number no_place other) refl

-- where there are no validity bits, no number is the mark
pub packed_where : (validity : Option (List Bool)) (bytes : List ℕ) → is_some validity ≡ false → AreValidWhereSome validity (map held (numbers_in bytes)) →
    ArePacked bytes (map held (numbers_in bytes))
packed_where None bytes none valid = packed_plain bytes valid
packed_where (Some bits) bytes none valid = absurd (let no : ⊥ = cc in no)

-- the bits of places
pub valid_bits : (bits : List Bool) (places : List ℕ) → bits ≡ map (λ number. not (nat_eq number no_place)) places → AreValidWhereSome (Some bits) (map held places)
valid_bits bits places is = record {
  long = ap length is ∙ length-map places (λ number. not (nat_eq number no_place)) ∙ sym (length-map places held);
  each = λ k low.
      let under : k < length places = omega (arith, length-map places held, low) in
      ap (λ (xs : List Bool). get_or xs k false) is ∙ get_or-map (λ number. not (nat_eq number no_place)) places k 0 false under
      ∙ sym (held_where (get_or places k 0)) ∙ ap is_some (sym (get_or-map held places k 0 None under));
}

-- where the mark does not stand, each slot is valid
any_at : (places : List ℕ) → list_any (λ number. nat_eq number no_place) places ≡ false → (k : ℕ) → k < length places → nat_eq (get_or places k 0) no_place ≡ false
any_at [] none k low = absurd (omega arith)
any_at (place ∷ places) none zero low = first (nat_eq place no_place) (list_any (λ number. nat_eq number no_place) places) none
  where
    first : (a b : Bool) → (a || b) ≡ false → a ≡ false
    first true b e = e
    first false b e = refl
any_at (place ∷ places) none (suc k) low = any_at places (others (nat_eq place no_place) (list_any (λ number. nat_eq number no_place) places) none) k (omega arith)
  where
    others : (a b : Bool) → (a || b) ≡ false → b ≡ false
    others true b e = absurd (let no : ⊥ = cc in no)
    others false b e = e

pub valid_all : (places : List ℕ) → list_any (λ number. nat_eq number no_place) places ≡ false → AreValidWhereSome None (map held places)
valid_all places none = record {
  long = tt;
  each = λ k low.
      let under : k < length places = omega (arith, length-map places held, low) in
      let is : is_some (held (get_or places k 0)) ≡ true = held_where (get_or places k 0) ∙ ap not (any_at places none k under) in
      sym (ap is_some (get_or-map held places k 0 None under) ∙ is);
}

-- a place leads to a value that is not null
pub some_where : (texts : List (List ℕ)) (place : Option ℕ) (value : Value) → Leads texts place value → is_some place ≡ not (is_null value)
some_where texts None value leads = rw leads refl
some_where texts (Some place) value leads = rw leads.2 refl

-- there are as many places as values
pub led_long : (texts : List (List ℕ)) (places : List (Option ℕ)) (values : List Value) → AreLed texts places values → length places ≡ length values
led_long texts [] [] led = refl
led_long texts (place ∷ places) (value ∷ values) led = ap (λ (n : ℕ). suc n) (led_long texts places values led.1)
led_long texts [] (value ∷ values) led = absurd led
led_long texts (place ∷ places) [] led = absurd led

-- whether a slot has a place
some_at : (texts : List (List ℕ)) (places : List (Option ℕ)) (column : ColumnAt) (k : ℕ) → AreLed texts places (values_of column) → k < length places →
    is_some (get_or places k None) ≡ not (is_null (slot_of column k))
some_at texts places column k led low =
    let count = led_long texts places (values_of column) led ∙ length-map-range_with_len (slot_of column) 0 column.len in
    some_where texts (get_or places k None) (get_or (values_of column) k Null) (led_at texts places (values_of column) led k low)
    ∙ ap (λ (v : Value). not (is_null v)) (get_or-map-range_with_len (slot_of column) 0 column.len k k Null (omega (arith, count, low)) (omega arith))

-- where no slot is null, each is valid
pub valid_none : (texts : List (List ℕ)) (places : List (Option ℕ)) (column : ColumnAt) → AreLed texts places (values_of column) → null_count column ≡ 0 → AreValidWhereSome None places
valid_none texts places column led none = record {
  long = tt;
  each = λ k low.
      let count = led_long texts places (values_of column) led ∙ length-map-range_with_len (slot_of column) 0 column.len in
      let z : 0 + k ≡ k = omega arith in
      let here : is_null (slot_of column k) ≡ false = rw z at (none_null (slot_of column) 0 column.len k none (omega (arith, count, low))) in
      sym (some_at texts places column k led low ∙ ap not here);
}

-- the bits that tell each null of a column tell it of its places
pub valid_own : (texts : List (List ℕ)) (places : List (Option ℕ)) (column : ColumnAt) (all own : List Bool) → AreLed texts places (values_of column) → length own ≡ column.len →
    ((k : ℕ) → k < column.len → get_or own k false ≡ get_or all (column.first + k) false) →
    ((k : ℕ) → k < column.len → is_null (slot_of column k) ≡ not (get_or all (column.first + k) false)) → AreValidWhereSome (Some own) places
valid_own texts places column all own led long same told = record {
  long = long ∙ sym (led_long texts places (values_of column) led ∙ length-map-range_with_len (slot_of column) 0 column.len);
  each = λ k low.
      let count = led_long texts places (values_of column) led ∙ length-map-range_with_len (slot_of column) 0 column.len in
      let under : k < column.len = omega (arith, count, low) in
      same k under ∙ not_not (get_or all (column.first + k) false) ∙ ap not (sym (told k under)) ∙ sym (some_at texts places column k led low);
}
  where
    not_not : (b : Bool) → b ≡ not (not b)
    not_not true = refl
    not_not false = refl

-- where a slot is null, its index is 0
pub zero_where : (texts : List (List ℕ)) (places : List (Option ℕ)) (bytes : List ℕ) (column : ColumnAt) → ArePacked bytes places → AreLed texts places (values_of column) →
    (k : ℕ) → k < column.len → slot_of column k ≡ Null → integer_at Int32 bytes k ≡ pos 0
zero_where texts places bytes column packed led k low null =
    let count = led_long texts places (values_of column) led ∙ length-map-range_with_len (slot_of column) 0 column.len in
    let under : k < length places = omega (arith, count, low) in
    let none : is_some (get_or places k None) ≡ false = some_at texts places column k led under ∙ ap (λ (v : Value). not (is_null v)) null in
    ap (number_from Int32) (packed.each k under ∙ by (get_or places k None) none) ∙ plain 0 (omega arith)
  where
    by : (place : Option ℕ) → is_some place ≡ false → unwrap_or place 0 ≡ 0
    by None none = refl
    by (Some place) none = absurd (let no : ⊥ = cc in no)
