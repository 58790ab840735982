-- Columns whose values are no texts have light texts.
use Rattle.std.proofs.Common.{◌≡◌, ◌≤◌, ◌<◌, ℕ, ◌+◌, ◌-◌, false, List, [], None, length, get_or, sym, ap, ◌∙◌, ◌⊎◌, inl, inr, arith, subst}
use Rattle.std.proofs.lemmas.Bool.{cases_lt}
use Rattle.std.proofs.lemmas.List.{get_or_append_left, get_or-append-add, take_all}
use Rattle.std.proofs.lemmas.List.Elements.{All-map, All-weaker}
use Rattle.arrow_types.specs.declared.data_type.DataType.TheVariants as type
use Rattle.scan_base.specs.declared.value.Value.{Value}
use Rattle.scan_base.specs.Predicate.{cell_in}
use Rattle.arrays.specs.declared.layout.Layout.TheVariants as layout
use Rattle.arrays.specs.Column.{ColumnAt}
use Rattle.arrays.specs.WrittenSlots.{text_bytes}
use Rattle.array_select.specs.Fitting.{has_texts}
use Rattle.array_select.proofs.Light.{no_text, plain_light}
use Rattle.array_select.specs.Room.{allowed}
use Rattle.hash_join.specs.declared.pair.Pair.{Pair}
use Rattle.join_batches.specs.declared.batch_sides.BatchSides.{BatchSides}
use Rattle.join_batches.specs.Rows.{batch_numbered, pair_row, IsPair}
use Rattle.join_batches.specs.BatchSides.{side_types, type_in, width_of, AreSides, ArePairs, AreLightIn, FitsIn, rows_at, cells_of}
use Rattle.join_batches.proofs.Typed.{typed_long, typed_at}
use Rattle.join_batches.proofs.Cells.{left_cell, right_cell}

pub none : ColumnAt
none = record { layout = layout.Bools (record { validity = None; values = [] }); first = 0; len = 0 }

-- nor is such a cell of a joined row
no_text_in : (sides : BatchSides) (number : ℕ) → AreSides sides → number < width_of sides → has_texts (get_or (side_types sides) number type.Utf8) ≡ false →
    (pair : Pair) → IsPair sides.rights.now sides.left.now pair → text_bytes (cell_in (pair_row sides.rights.now sides.left.now pair) number) ≡ []
no_text_in sides number are h plain pair is = by (cases_lt number (length sides.left_types.now))
  where
    by : (number < length sides.left_types.now) ⊎ (length sides.left_types.now ≤ number) → text_bytes (cell_in (pair_row sides.rights.now sides.left.now pair) number) ≡ []
    by (inl low) =
        let left = sides.left.now in
        let wide = typed_long sides.left_types.now left.columns are.left in
        ap text_bytes (left_cell sides.rights.now left pair number none (omega (arith, low, wide)))
        ∙ no_text (get_or sides.left_types.now number type.Utf8) (get_or left.columns number none).layout ((get_or left.columns number none).first + pair.left)
        (sym (ap has_texts (get_or_append_left sides.left_types.now sides.right_types.now type.Utf8 number low)) ∙ plain)
        (typed_at sides.left_types.now left.columns number type.Utf8 none are.left low)
    by (inr high) =
        let k = number - length sides.left_types.now in
        let same : length sides.left_types.now + k ≡ number = omega (arith, high) in
        let right = batch_numbered sides.rights.now pair.batch in
        let rights = are.rights pair.batch (record { columns = []; rows = 0 }) is.batch in
        let wide = typed_long sides.right_types.now right.columns rights in
        let low : k < length sides.right_types.now = omega (arith, h, high) in
        ap (λ (n : ℕ). text_bytes (cell_in (pair_row sides.rights.now sides.left.now pair) n)) (sym same)
        ∙ ap text_bytes (right_cell sides.rights.now sides.left.now pair (length sides.left_types.now) k none
        (typed_long sides.left_types.now sides.left.now.columns are.left) (omega (arith, low, wide)))
        ∙ no_text (get_or sides.right_types.now k type.Utf8) (get_or right.columns k none).layout ((get_or right.columns k none).first + pair.row)
        (sym (ap has_texts (ap (λ (n : ℕ). get_or (side_types sides) n type.Utf8) (sym same) ∙ get_or-append-add sides.left_types.now sides.right_types.now k type.Utf8)) ∙ plain)
        (typed_at sides.right_types.now right.columns k type.Utf8 none rights low)

-- such a column has room for all pairs
pub all_fit_in : (sides : BatchSides) (share : ℕ) (pairs : List Pair) (number : ℕ) → AreSides sides → ArePairs sides pairs → 0 < length pairs → number < width_of sides →
    has_texts (get_or (side_types sides) number type.Utf8) ≡ false → FitsIn sides share pairs number (length pairs)
all_fit_in sides share pairs number are there some h plain = record {
  some = some;
  within = omega arith;
  light = subst (λ (all : List Pair). AreLightIn sides share all number) (sym (take_all (length pairs) pairs (omega arith)))
      (plain_light (allowed share (type_in sides number)) (cells_of (rows_at sides pairs) number)
      (All-map (λ (value : Value). text_bytes value ≡ []) (λ (row : List Value). cell_in row number) (rows_at sides pairs)
      (All-map (λ (row : List Value). text_bytes (cell_in row number) ≡ []) (pair_row sides.rights.now sides.left.now) pairs
      (All-weaker (IsPair sides.rights.now sides.left.now) (λ (pair : Pair). text_bytes (cell_in (pair_row sides.rights.now sides.left.now pair) number) ≡ [])
      (no_text_in sides number are h plain) pairs there))));
}
