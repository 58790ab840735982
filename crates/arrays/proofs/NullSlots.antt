-- Slots that are null, and those that are not.
use Rattle.std.proofs.Common.{◌≡◌, ℕ, zero, suc, ◌+◌, ◌<◌, ◌≤◌, Bool, true, false, not, ◌||◌, cond, List, [], ◌∷◌, length, map, get_or, take, drop, count_by, is_some, unwrap_or, refl, sym, ap, ◌∙◌, arith}
use Rattle.std.specs.List.{filter, list_any, range_with_len}
use Rattle.std.proofs.lemmas.List.FromFn.{length-map-range_with_len}
use Rattle.std.proofs.lemmas.List.Sums.{length-filter, sum_by-cons}
use Rattle.std.proofs.lemmas.Simd.{map-map}
use Rattle.scan_base.specs.declared.value.Value.{Value}
use Rattle.scan_base.specs.declared.value.Value.TheVariants.{Null}
use Rattle.scan_base.specs.Value.{is_null}
use Rattle.arrays.specs.Validity.{is_valid}
use Rattle.arrays.specs.Indices.{IndicesAt, entry_of, index_stands}
use Rattle.arrays.specs.Column.{ColumnAt, slot_of, values_of}
use Rattle.arrays.specs.Number.{integer_at}
use Rattle.arrays.specs.Nulls.{null_count, valid_slots}
use Rattle.arrays.proofs.Entries.{dropped}
use Rattle.arrays.proofs.NoNulls.{led_to}
use Rattle.arrays.proofs.Rest.{rest_of, rest_more}

-- a valid index leads to no null, where the dictionary has none
pub led_valid : (cells : IndicesAt) (place : ℕ) → list_any is_null cells.dictionary ≡ false → index_stands cells place ≡ true → is_valid cells.validity place ≡ true →
    is_null (unwrap_or (entry_of cells place) Null) ≡ false
led_valid cells place none stands valid = led_to cells.dictionary (integer_at cells.index cells.values place) none (by (is_valid cells.validity place) (is_some (entry_of cells place)) valid stands)
  where
    by : (a b : Bool) → a ≡ true → (not a || b) ≡ true → b ≡ true
    by true b e h = h
    by false b e h = absurd (let no : ⊥ = cc in no)

not_not : (a : Bool) → not (not a) ≡ a
not_not true = refl
not_not false = refl

-- the valid slots, by the bits that say so
valid_range : (slot : ℕ → Value) (bits : List Bool) (first a n : ℕ) → ((j : ℕ) → a ≤ j → j < a + n → is_null (slot j) ≡ not (get_or bits (first + j) false)) → first + a + n ≤ length bits →
    map (λ (j : ℕ). not (is_null (slot j))) (range_with_len a n) ≡ take n (drop (first + a) bits)
valid_range slot bits first a zero same room = refl
valid_range slot bits first a (suc n) same room =
    let here = same a (omega arith) (omega arith) in
    let e : first + (a + 1) ≡ first + a + 1 = omega arith in
    let ih = valid_range slot bits first (a + 1) n (λ j low high. same j (omega arith) (omega arith)) (omega arith) in
    let front : drop (first + a) bits ≡ get_or bits (first + a) false ∷ drop (first + a + 1) bits = dropped bits (first + a) (get_or bits (first + a) false) (omega arith) (get_or_again bits (first + a) (omega arith)) in
    rw (here, not_not (get_or bits (first + a) false), front) (ap (λ (xs : List Bool). get_or bits (first + a) false ∷ xs) (ih ∙ ap (λ (k : ℕ). take n (drop k bits)) e))
  where
    get_or_again : (bits : List Bool) (i : ℕ) → i < length bits → get_or bits i false ≡ get_or bits i (get_or bits i false)
    get_or_again [] i low = absurd (omega arith)
    get_or_again (bit ∷ bits) zero low = refl
    get_or_again (bit ∷ bits) (suc i) low = get_or_again bits i (omega arith)

pub valid_map : (column : ColumnAt) → valid_slots column ≡ map (λ (j : ℕ). not (is_null (slot_of column j))) (range_with_len 0 column.len)
valid_map column = map-map (λ (value : Value). not (is_null value)) (slot_of column) (range_with_len 0 column.len)

pub valid_bits : (column : ColumnAt) (bits : List Bool) → ((j : ℕ) → j < column.len → is_null (slot_of column j) ≡ not (get_or bits (column.first + j) false)) →
    column.first + column.len ≤ length bits → valid_slots column ≡ take column.len (drop column.first bits)
valid_bits column bits same room =
    let e : column.first + 0 ≡ column.first = omega arith in
    valid_map column ∙ valid_range (slot_of column) bits column.first 0 column.len (λ j low high. same j (omega arith)) (omega arith) ∙ ap (λ (k : ℕ). take column.len (drop k bits)) e

pub length-valid_slots : (column : ColumnAt) → length (valid_slots column) ≡ column.len
length-valid_slots column = ap length (valid_map column) ∙ length-map-range_with_len (λ (j : ℕ). not (is_null (slot_of column j))) 0 column.len

-- null or not, each value counts once
both : (values : List Value) → length (filter is_null values) + count_by (λ (bit : Bool). bit) (map (λ (value : Value). not (is_null value)) values) ≡ length values
both [] = refl
both (value ∷ values) =
    rw (
      length-filter is_null (value ∷ values),
      sum_by-cons (λ (x : Value). cond (is_null x) 1 0) value values,
      sum_by-cons (λ (bit : Bool). cond bit 1 0) (not (is_null value)) (map (λ (x : Value). not (is_null x)) values),
    )
    (by (is_null value) (count_by is_null values) (count_by (λ (bit : Bool). bit) (map (λ (x : Value). not (is_null x)) values)) (ap (λ (n : ℕ). n + count_by (λ (bit : Bool). bit) (map (λ (x : Value). not (is_null x)) values)) (sym (length-filter is_null values)) ∙ both values))
  where
    by : (null : Bool) (nulls valid : ℕ) → nulls + valid ≡ length values → cond null 1 0 + nulls + (cond (not null) 1 0 + valid) ≡ suc (length values)
    by true nulls valid ih = omega arith
    by false nulls valid ih = omega arith

pub nulls_and_others : (column : ColumnAt) → null_count column + count_by (λ (bit : Bool). bit) (valid_slots column) ≡ column.len
nulls_and_others column = both (values_of column) ∙ length-map-range_with_len (slot_of column) 0 column.len

-- no null is counted where there is none
pub none_counted : (slot : ℕ → Value) (a n : ℕ) → ((j : ℕ) → a ≤ j → j < a + n → is_null (slot j) ≡ false) → length (filter is_null (map slot (range_with_len a n))) ≡ 0
none_counted slot a zero none = refl
none_counted slot a (suc n) none = rw (none a (omega arith) (omega arith)) (none_counted slot (a + 1) n (λ j low high. none j (omega arith) (omega arith)))

-- one slot after another
pub count_null : (column : ColumnAt) (place : ℕ) → place < column.len → is_null (slot_of column place) ≡ true →
    length (filter is_null (rest_of column place)) ≡ 1 + length (filter is_null (rest_of column (place + 1)))
count_null column place low null = rw (rest_more column place low, null) (omega arith)

pub count_other : (column : ColumnAt) (place : ℕ) → place < column.len → is_null (slot_of column place) ≡ false →
    length (filter is_null (rest_of column place)) ≡ length (filter is_null (rest_of column (place + 1)))
count_other column place low other = rw (rest_more column place low, other) refl
