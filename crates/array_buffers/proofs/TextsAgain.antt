-- Offsets and texts, read again.
use Rattle.std.proofs.Common.{◌≡◌, ℕ, zero, suc, ◌+◌, ◌*◌, ◌^◌, ◌<◌, ◌≤◌, ◌==◌, ◌&&◌, nat_le, Bool, true, false, not, ◌||◌, length, take, refl, ap, ◌∙◌, arith}
use Rattle.std.specs.List.{list_all, slice_range, range_with_len}
use Rattle.std.specs.Str.{is_utf8}
use Rattle.std.proofs.lemmas.Bool.{le-leb, lt-ltb}
use Rattle.std.proofs.lemmas.List.FromFn.{length-map-range_with_len, get_or-map-range_with_len}
use Rattle.scan_base.specs.declared.value.Value.{Value}
use Rattle.scan_base.specs.declared.value.Value.TheVariants as variant
use Rattle.arrays.specs.Number.{element_at}
use Rattle.scan_base.specs.Value.{is_null, IsTextOrNull}
use Rattle.arrays.specs.Texts.{TextsAt, text_at, is_offset, text_stands, texts_stand}
use Rattle.arrays.specs.Column.{ColumnAt, slot_of, values_of}
use Rattle.arrays.specs.WrittenSlots.{text_bytes, offsets_from, texts_joined}
use Rattle.arrays.proofs.Offsets.{length-offsets, offset_again, text_again, joined-le, joined-next}
use Rattle.array_buffers.proofs.BitsAgain.{validity_again, valid_again}

-- the texts of a column as they are read
abbrev pub texts_again : ColumnAt → TextsAt
texts_again column = record {
  validity = validity_again column;
  offsets = offsets_from 0 (values_of column);
  bytes = texts_joined (values_of column);
  len = column.len;
}

pub cut_again : (column : ColumnAt) (j : ℕ) → j < column.len → length (texts_joined (values_of column)) < 2 ^ 31 → text_at (texts_again column) j ≡ text_bytes (slot_of column j)
cut_again column j low short =
    let values = values_of column in
    let count = length-map-range_with_len (slot_of column) 0 column.len in
    let from = offset_again values 0 j (omega (arith, count)) (omega arith) in
    let to = offset_again values 0 (j + 1) (omega (arith, count)) (omega arith) in
    let z : 0 + length (texts_joined (take j values)) ≡ length (texts_joined (take j values)) = omega arith in
    let y : 0 + length (texts_joined (take (j + 1) values)) ≡ length (texts_joined (take (j + 1) values)) = omega arith in
    ap (λ (a : ℕ). slice_range (texts_joined values) a (element_at 4 (offsets_from 0 values) (j + 1))) (from ∙ z)
    ∙ ap (λ (b : ℕ). slice_range (texts_joined values) (length (texts_joined (take j values))) b) (to ∙ y)
    ∙ text_again values j (slot_of column j) (omega (arith, count))
    ∙ ap text_bytes (get_or-map-range_with_len (slot_of column) 0 column.len j j (slot_of column j) low (omega arith))

offset_stands : (column : ColumnAt) (j : ℕ) → j ≤ column.len → length (texts_joined (values_of column)) < 2 ^ 31 → is_offset (texts_again column) j ≡ true
offset_stands column j low short =
    let values = values_of column in
    let is = offset_again values 0 j (omega (arith, length-map-range_with_len (slot_of column) 0 column.len)) (omega arith) in
    let within = joined-le values j in
    let a : element_at 4 (offsets_from 0 values) j ≤ length (texts_joined values) = omega (arith, is, within) in
    let b : element_at 4 (offsets_from 0 values) j < 2 ^ 31 = omega (arith, is, within) in
    rw (le-leb (element_at 4 (offsets_from 0 values) j) (length (texts_joined values)) a, lt-ltb (element_at 4 (offsets_from 0 values) j) (2 ^ 31) b) refl

or_last : (a b : Bool) → b ≡ true → (a || b) ≡ true
or_last true b e = refl
or_last false b e = e

text_utf8 : (value : Value) → is_null value ≡ false → IsTextOrNull value → is_utf8 (text_bytes value) ≡ true
text_utf8 variant.Null e text = absurd (let no : ⊥ = cc in no)
text_utf8 (variant.Bool flag) e text = absurd text
text_utf8 (variant.Int number) e text = absurd text
text_utf8 (variant.Text bytes) e text = text

pub text_value : (value : Value) → is_null value ≡ false → IsTextOrNull value → variant.Text (text_bytes value) ≡ value
text_value variant.Null e text = absurd (let no : ⊥ = cc in no)
text_value (variant.Bool flag) e text = absurd text
text_value (variant.Int number) e text = absurd text
text_value (variant.Text bytes) e text = refl

slot_stands : (column : ColumnAt) (j : ℕ) → j < column.len → length (texts_joined (values_of column)) < 2 ^ 31 → IsTextOrNull (slot_of column j) → text_stands (texts_again column) j ≡ true
slot_stands column j low short text =
    let values = values_of column in
    let count = length-map-range_with_len (slot_of column) 0 column.len in
    let from = offset_again values 0 j (omega (arith, count)) (omega arith) in
    let to = offset_again values 0 (j + 1) (omega (arith, count)) (omega arith) in
    let next = joined-next values j in
    let ordered : element_at 4 (offsets_from 0 values) j ≤ element_at 4 (offsets_from 0 values) (j + 1) = omega (arith, from, to, next) in
    rw (offset_stands column (j + 1) (omega arith) short, le-leb (element_at 4 (offsets_from 0 values) j) (element_at 4 (offsets_from 0 values) (j + 1)) ordered, valid_again column j low, cut_again column j low short)
    (by (is_null (slot_of column j)) refl)
  where
    by : (null : Bool) → is_null (slot_of column j) ≡ null → (not (not null) || is_utf8 (text_bytes (slot_of column j))) ≡ true
    by true e = refl
    by false e = text_utf8 (slot_of column j) e text

pub all_hold : (test : ℕ → Bool) (first len : ℕ) → ((j : ℕ) → first ≤ j → j < first + len → test j ≡ true) → list_all test (range_with_len first len) ≡ true
all_hold test first zero each = refl
all_hold test first (suc len) each = rw (each first (omega arith) (omega arith)) (all_hold test (first + 1) len (λ j low high. each j (omega arith) (omega arith)))

pub texts_stand_again : (column : ColumnAt) → length (texts_joined (values_of column)) < 2 ^ 31 → ((j : ℕ) → j < column.len → IsTextOrNull (slot_of column j)) →
    texts_stand (texts_again column) ≡ true
texts_stand_again column short texts =
    let count = length-map-range_with_len (slot_of column) 0 column.len in
    let room : 4 * (column.len + 1) ≤ length (offsets_from 0 (values_of column)) = omega (arith, length-offsets 0 (values_of column), count) in
    let cells = texts_again column in
    or_last (column.len == 0 && length cells.offsets == 0)
    (nat_le (4 * (column.len + 1)) (length cells.offsets) && (is_offset cells 0 && list_all (text_stands cells) (range_with_len 0 column.len)))
    (rw (le-leb (4 * (column.len + 1)) (length (offsets_from 0 (values_of column))) room, offset_stands column 0 (omega arith) short, all_hold (text_stands (texts_again column)) 0 column.len (λ j low high. slot_stands column j (omega arith) short (texts j (omega arith)))) refl)
