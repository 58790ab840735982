-- The texts of slots stand one after another.
use Rattle.std.proofs.Common.{◌≡◌, ◌≤◌, ◌<◌, ◌^◌, ℕ, zero, suc, ◌+◌, ◌-◌, Bool, true, false, if◌then◌else◌, List, ◌++◌, length, map, take, drop, slice_range, refl, sym, ap, ◌∙◌, arith}
use Rattle.std.specs.List.{flat_map, range_with_len}
use Rattle.std.proofs.Math.Seq.{drop-drop, take-add}
use Rattle.std.proofs.lemmas.Bool.{leb-true, ltb-true, and_parts}
use Rattle.scan_base.specs.declared.value.Value.{Value}
use Rattle.scan_base.specs.declared.value.Value.TheVariants.{Null, Text}
use Rattle.arrays.specs.declared.layout.Layout.TheVariants as layout
use Rattle.arrays.specs.Number.{element_at}
use Rattle.scan_base.specs.Value.{is_null}
use Rattle.arrays.specs.Validity.{is_valid}
use Rattle.arrays.specs.Texts.{TextsAt, text_at, texts_slot, AreTexts}
use Rattle.arrays.specs.Column.{ColumnAt, slot_of, values_of}
use Rattle.arrays.specs.WrittenSlots.{text_bytes, texts_joined}

-- a part, and the part after it
pub parts_joined : (xs : List ℕ) (a b c : ℕ) → a ≤ b → b ≤ c → slice_range xs a b ++ slice_range xs b c ≡ slice_range xs a c
parts_joined xs a b c low high =
    let count : c - a ≡ (b - a) + (c - b) = omega arith in
    let whole : a + (b - a) ≡ b = omega arith in
    sym (ap (λ (n : ℕ). take n (drop a xs)) count ∙ take-add (b - a) (c - b) (drop a xs)
    ∙ ap (λ (ys : List ℕ). slice_range xs a b ++ take (c - b) ys) (drop-drop (b - a) a xs ∙ ap (λ (n : ℕ). drop n xs) whole))

-- a text does not end before it begins
pub ordered : (cells : TextsAt) (place : ℕ) → AreTexts cells → place < cells.len → element_at 4 cells.offsets place ≤ element_at 4 cells.offsets (place + 1)
ordered cells place are low =
    let behind = and_parts _ _ (are.texts place low) in
    let rest = and_parts _ _ behind.1 in
    leb-true _ _ rest.0

-- it ends within the data, and where an offset can name it
pub ends : (cells : TextsAt) (place : ℕ) → AreTexts cells → place < cells.len →
    (element_at 4 cells.offsets (place + 1) ≤ length cells.bytes) × (element_at 4 cells.offsets (place + 1) < 2 ^ 31)
ends cells place are low =
    let behind = and_parts _ _ (are.texts place low) in
    let is = and_parts _ _ behind.0 in
    (leb-true _ _ is.0, ltb-true _ _ is.1)

-- nor before an earlier one
pub rising : (cells : TextsAt) (from n : ℕ) → AreTexts cells → from + n ≤ cells.len → element_at 4 cells.offsets from ≤ element_at 4 cells.offsets (from + n)
rising cells from zero are low = let e : from + 0 ≡ from = omega arith in rw e (omega arith)
rising cells from (suc n) are low =
    let e : from + suc n ≡ from + 1 + n = omega arith in
    rw e (omega (arith, ordered cells from are (omega arith), rising cells (from + 1) n are (omega arith)))

-- where the texts from one slot up to another begin and end
pub bounds : (cells : TextsAt) (from to : ℕ) → AreTexts cells → from < to → to ≤ cells.len →
    (element_at 4 cells.offsets from ≤ element_at 4 cells.offsets to) × (element_at 4 cells.offsets to ≤ length cells.bytes) × (element_at 4 cells.offsets to < 2 ^ 31)
bounds cells from to are some low =
    let last : to - 1 + 1 ≡ to = omega arith in
    let whole : from + (to - from) ≡ to = omega arith in
    let is = rw last at (ends cells (to - 1) are (omega arith)) in
    (rw whole at (rising cells from (to - from) are (omega arith)), is.0, is.1)

-- the texts from one slot on lie between where the first begins and where the last ends
adjoining : (cells : TextsAt) (from n : ℕ) → AreTexts cells → from + n ≤ cells.len →
    flat_map (text_at cells) (range_with_len from n) ≡ slice_range cells.bytes (element_at 4 cells.offsets from) (element_at 4 cells.offsets (from + n))
adjoining cells from zero are low =
    let e : from + 0 ≡ from = omega arith in
    let none : element_at 4 cells.offsets from - element_at 4 cells.offsets from ≡ 0 = omega arith in
    rw (e, none) refl
adjoining cells from (suc n) are low =
    let e : from + suc n ≡ from + 1 + n = omega arith in
    rw (adjoining cells (from + 1) n are (omega arith), e)
    (parts_joined cells.bytes _ _ _ (ordered cells from are (omega arith)) (rising cells (from + 1) n are (omega arith)))

pub between : (cells : TextsAt) (from to : ℕ) → AreTexts cells → from ≤ to → to ≤ cells.len →
    flat_map (text_at cells) (range_with_len from (to - from)) ≡ slice_range cells.bytes (element_at 4 cells.offsets from) (element_at 4 cells.offsets to)
between cells from to are some low =
    let whole : from + (to - from) ≡ to = omega arith in
    rw whole at (adjoining cells from (to - from) are (omega arith))

-- the bytes of a text that is not null
text_of : (cells : TextsAt) (place : ℕ) → is_null (texts_slot cells place) ≡ false → text_bytes (texts_slot cells place) ≡ text_at cells place
text_of cells place some = by (is_valid cells.validity place) some
  where
    by : (valid : Bool) → is_null (if valid then Text (text_at cells place) else Null) ≡ false → text_bytes (if valid then Text (text_at cells place) else Null) ≡ text_at cells place
    by true e = refl
    by false e = absurd (let no : ⊥ = cc in no)

-- the same of slots that are counted from an earlier one on
pub shifted : (slot : ℕ → Value) (text : ℕ → List ℕ) (first at n : ℕ) → ((j : ℕ) → j < at + n → text_bytes (slot j) ≡ text (first + j)) →
    texts_joined (map slot (range_with_len at n)) ≡ flat_map text (range_with_len (first + at) n)
shifted slot text first at zero same = refl
shifted slot text first at (suc n) same =
    let e : first + (at + 1) ≡ first + at + 1 = omega arith in
    rw (same at (omega arith), shifted slot text first (at + 1) n (λ j low. same j (omega arith)), e) refl

-- the texts of a column without nulls
pub column_texts : (column : ColumnAt) (cells : TextsAt) → column.layout ≡ layout.Texts cells → ((place : ℕ) → place < column.len → is_null (texts_slot cells (column.first + place)) ≡ false) →
    texts_joined (values_of column) ≡ flat_map (text_at cells) (range_with_len column.first column.len)
column_texts column cells is some =
    let e : column.first + 0 ≡ column.first = omega arith in
    shifted (slot_of column) (text_at cells) column.first 0 column.len (λ j low. rw is (text_of cells (column.first + j) (some j (omega arith)))) ∙ rw e refl
