-- Offsets that stand in a buffer as they are written.
use Rattle.std.proofs.Common.{◌≡◌, ◌≤◌, ◌<◌, ◌*◌, ◌/◌, ◌%◌, ℕ, zero, suc, ◌+◌, ◌-◌, List, [], ◌∷◌, ◌++◌, length, map, take, drop, slice_range, refl, sym, ap, ◌∙◌, arith, drop-cons}
use Rattle.std.specs.List.{flat_map, range_with_len}
use Rattle.std.proofs.lemmas.List.{length-take, length-drop}
use Rattle.byteorder.specs.Endian.{little_from, little_bytes}
use Rattle.scan_base.specs.declared.value.Value.{Value}
use Rattle.arrays.specs.Number.{element_at, AreBytes}
use Rattle.arrays.specs.Texts.{TextsAt, text_at, AreTexts}
use Rattle.arrays.specs.declared.layout.Layout.TheVariants as layout
use Rattle.arrays.specs.Column.{ColumnAt, slot_of, values_of, IsColumn}
use Rattle.arrays.specs.WrittenSlots.{text_bytes, offsets_from}
use Rattle.array_buffers.specs.ColumnBuffers.{buffer_of}
use Rattle.arrays.proofs.Adjoining.{parts_joined, ordered, ends, shifted}
use Rattle.array_buffers.proofs.Lengths.{written_as, stands_as}

-- four bytes, written again from the number that they are
pub bytes_again : (at : ℕ) (xs : List ℕ) → AreBytes xs → at + 4 ≤ length xs → little_bytes 4 (little_from at 4 xs) ≡ take 4 (drop at xs)
bytes_again at xs bytes room =
    let a = bytes at in
    let b = bytes (suc at) in
    let c = bytes (suc (suc at)) in
    let d = bytes (suc (suc (suc at))) in
    rw (drop-cons xs at 0 (omega arith), drop-cons xs (suc at) 0 (omega arith), drop-cons xs (suc (suc at)) 0 (omega arith), drop-cons xs (suc (suc (suc at))) 0 (omega arith))
    (four (little_from at 4 xs) _ _ _ _ (omega arith) (omega arith) (omega arith) (omega arith))
  where
    four : (n a b c d : ℕ) → n % 256 ≡ a → n / 256 % 256 ≡ b → n / 65536 % 256 ≡ c → n / 16777216 % 256 ≡ d → little_bytes 4 n ≡ a ∷ b ∷ c ∷ d ∷ []
    four n a b c d p q r s = rw (← p, ← q, ← r, ← s) refl

-- the offsets of texts whose bytes stand one after another
pub offsets_stand : (slot : ℕ → Value) (cells : TextsAt) (first at n : ℕ) → AreTexts cells → AreBytes cells.offsets → first + at + n ≤ cells.len →
    4 * (first + at + n + 1) ≤ length cells.offsets → ((j : ℕ) → j < at + n → text_bytes (slot j) ≡ text_at cells (first + j)) →
    slice_range cells.offsets (4 * (first + at)) (4 * (first + at + n + 1)) ≡ offsets_from (element_at 4 cells.offsets (first + at)) (map slot (range_with_len at n))
unfolding element_at
offsets_stand slot cells first at zero are bytes low room same =
    let count : 4 * (first + at + 0 + 1) - 4 * (first + at) ≡ 4 = omega arith in
    rw count (sym (bytes_again (4 * (first + at)) cells.offsets bytes (omega arith)))
offsets_stand slot cells first at (suc n) are bytes low room same =
    let next : first + (at + 1) ≡ first + at + 1 = omega arith in
    let whole : first + at + suc n + 1 ≡ first + (at + 1) + n + 1 = omega arith in
    let count : 4 * (first + at + 1) - 4 * (first + at) ≡ 4 = omega arith in
    let begins = ordered cells (first + at) are (omega arith) in
    let within = ends cells (first + at) are (omega arith) in
    let long : element_at 4 cells.offsets (first + at) + length (text_bytes (slot at)) ≡ element_at 4 cells.offsets (first + (at + 1)) =
    rw (same at (omega arith), next) (omega (arith, length-take (element_at 4 cells.offsets (first + at + 1) - element_at 4 cells.offsets (first + at)) (drop (element_at 4 cells.offsets (first + at)) cells.bytes), length-drop (element_at 4 cells.offsets (first + at)) cells.bytes, begins, within.0)) in
    rw (whole, long)
    (sym (parts_joined cells.offsets (4 * (first + at)) (4 * (first + (at + 1))) (4 * (first + (at + 1) + n + 1)) (omega arith) (omega arith))
    ∙ rw (next, count) (ap (λ (xs : List ℕ). xs ++ slice_range cells.offsets (4 * (first + at + 1)) (4 * (first + at + 1 + n + 1))) (sym (bytes_again (4 * (first + at)) cells.offsets bytes (omega arith)))
    ∙ ap (λ (xs : List ℕ). little_bytes 4 (little_from (4 * (first + at)) 4 cells.offsets) ++ xs) (rw next at (offsets_stand slot cells first (at + 1) n are bytes (omega arith) (omega arith) (λ j low. same j (omega arith))))))

-- the texts of a column whose slots cut their texts
pub came_texts : (column : ColumnAt) (cells : TextsAt) → column.layout ≡ layout.Texts cells →
    ((j : ℕ) → j < column.len → text_bytes (slot_of column j) ≡ text_at cells (column.first + j)) →
    flat_map (text_at cells) (range_with_len column.first column.len) ≡ buffer_of column 2
came_texts column cells is same =
    let e : column.first + 0 ≡ column.first = omega arith in
    rw (written_as column column.layout (layout.Texts cells) refl is) (sym (shifted (slot_of column) (text_at cells) column.first 0 column.len (λ j low. same j (omega arith)) ∙ rw e refl))

-- the offsets of a column whose slots cut their texts, the first of them at the data's beginning
pub came_offsets : (column : ColumnAt) (cells : TextsAt) → column.layout ≡ layout.Texts cells → IsColumn column →
    ((j : ℕ) → j < column.len → text_bytes (slot_of column j) ≡ text_at cells (column.first + j)) → AreBytes cells.offsets → 0 < column.len →
    element_at 4 cells.offsets column.first ≡ 0 → 4 * (column.first + column.len + 1) ≤ length cells.offsets →
    slice_range cells.offsets (4 * column.first) (4 * (column.first + column.len + 1)) ≡ buffer_of column 1
came_offsets column cells is stands same bytes some begins room =
    let known = stands_as column column.layout (layout.Texts cells) refl is stands in
    let e : column.first + 0 ≡ column.first = omega arith in
    let from_zero : offsets_from (element_at 4 cells.offsets column.first) (values_of column) ≡ offsets_from 0 (values_of column) = ap (λ (n : ℕ). offsets_from n (values_of column)) begins in
    rw (written_as column column.layout (layout.Texts cells) refl is)
    (rw e at (offsets_stand (slot_of column) cells column.first 0 column.len known.stands bytes (rw e known.within) (rw e room) (λ j low. same j (omega arith))) ∙ from_zero)

-- the slots of such a column are slots of its texts
pub texts_within : (column : ColumnAt) (cells : TextsAt) → column.layout ≡ layout.Texts cells → IsColumn column → column.first + column.len ≤ cells.len
texts_within column cells is stands = (stands_as column column.layout (layout.Texts cells) refl is stands).within
