-- The cells of a batch are within the statistics of its columns.
use Rattle.std.proofs.Common.{◌≡◌, ◌<◌, ℕ, zero, suc, ◌-◌, true, false, List, [], ◌∷◌, length, get_or, Option, slice_get, option_map, unwrap_or, refl, sym, ap, ◌∙◌, subst, arith}
use Rattle.std.specs.List.{AllByRecursion, range_with_len}
use Rattle.std.proofs.lemmas.List.{get_or-map, length-map}
use Rattle.std.proofs.lemmas.List.Elements.{recursion_from_All, All-get_or}
use Rattle.std.proofs.lemmas.List.FromFn.{get_or-range_with_len, length-range_with_len}
use Rattle.std.proofs.lemmas.Option.{slice_get-map}
use Rattle.scan_base.specs.declared.truth.Truth.{Truth}
use Rattle.scan_base.specs.declared.truth.Truth.TheVariants.{True, False, Unknown}
use Rattle.scan_base.specs.declared.value.Value.{Value}
use Rattle.scan_base.specs.declared.value.Value.TheVariants.{Null}
use Rattle.scan_base.specs.Predicate.{cell_in, truth_of}
use Rattle.scan_base.specs.Truth.{keeps}
use Rattle.arrow_types.specs.declared.data_type.DataType.{DataType}
use Rattle.arrays.proofs.OfType.{values_are}
use Rattle.arrays.specs.Batch.{BatchAt, row_of}
use Rattle.arrays.specs.Column.{ColumnAt, IsColumn, slot_of, values_of}
use Rattle.arrays.specs.TypedLayouts.{AreOf, IsOfType}
use Rattle.batch_stats.specs.Columns.{stats_if_there, stats_in}
use Rattle.batch_stats.specs.Stats.{StatsAt, stats_of}
use Rattle.batch_skipping.specs.declared.possible_truths.PossibleTruths.{PossibleTruths}
use Rattle.batch_skipping.specs.PredicateTruths.{can}
use Rattle.batch_skipping.specs.Laws.{IsBatch, IsWithin, RowsArePossible, SkippedRowsAreNotKept}
use Rattle.batch_skipping.specs.PossibleTruths.{has}
use Rattle.batch_skipping.proofs.Ends.{own_values_are_within}
use Rattle.batch_skipping.proofs.Possibles.{truth_is_possible}
use Rattle.batch_skipping.proofs.SameCells.{same_truth_of}

-- each slot of a column is within the column's statistics
slot_within : (data_type : DataType) (column : ColumnAt) (row : ℕ) → IsColumn column → IsOfType data_type column.layout → row < column.len →
    IsWithin (stats_of (values_of column)) (slot_of column row)
slot_within data_type column row stands of low =
    let all = own_values_are_within data_type (values_of column) (values_are data_type column stands of) in
    let range = range_with_len 0 column.len in
    let count : length range ≡ column.len = length-range_with_len 0 column.len in
    let long : length (values_of column) ≡ column.len = length-map range (slot_of column) ∙ count in
    let here : get_or (values_of column) row Null ≡ slot_of column row =
    get_or-map (slot_of column) range row 0 Null (omega (arith, count, low))
    ∙ ap (slot_of column) (get_or-range_with_len 0 column.len row 0 low ∙ omega arith) in
    subst (IsWithin (stats_of (values_of column))) here (All-get_or (IsWithin (stats_of (values_of column))) (values_of column) row Null (omega (arith, long, low)) all)

module _ (rows row : ℕ) (low : row < rows) where
  abbrev Long : ColumnAt → Type 0
  Long column = column.len ≡ rows

  found : (types : List DataType) (columns : List ColumnAt) (number : ℕ) → AreOf types columns → AllByRecursion IsColumn columns → AllByRecursion Long columns →
      IsWithin (stats_if_there (slice_get columns number)) (unwrap_or (option_map (λ (column : ColumnAt). slot_of column row) (slice_get columns number)) Null)
  found [] [] number typed stand long = refl
  found [] (column ∷ columns) number typed stand long = absurd typed
  found (data_type ∷ types) [] number typed stand long = absurd typed
  found (data_type ∷ types) (column ∷ columns) zero typed stand long =
      slot_within data_type column row stand.0 typed.0 (let e : column.len ≡ rows = long.0 in omega (arith, e, low))
  found (data_type ∷ types) (column ∷ columns) (suc number) typed stand long = found types columns number typed.1 stand.1 long.1

-- and so is each cell of a row
cells_within : (types : List DataType) (batch : BatchAt) (row : ℕ) → IsBatch types batch → row < batch.rows → (number : ℕ) →
    IsWithin (stats_in batch.columns number) (cell_in (row_of batch.columns row) number)
cells_within types batch row is low number =
    subst (IsWithin (stats_in batch.columns number))
    (sym (ap (λ (cell : Option Value). unwrap_or cell Null) (slice_get-map (λ (column : ColumnAt). slot_of column row) batch.columns number)))
    (found batch.rows row low types batch.columns number is.typed (recursion_from_All IsColumn batch.columns is.stand)
    (recursion_from_All (λ (column : ColumnAt). column.len ≡ batch.rows) batch.columns is.long))

pub rows_are_possible : RowsArePossible
rows_are_possible types batch row predicate is low =
    truth_is_possible (stats_in batch.columns) (cell_in (row_of batch.columns row)) predicate (cells_within types batch row is low)

-- what cannot be true is not
not_kept : (possible : PossibleTruths) (truth : Truth) → has possible truth ≡ true → possible.can_true ≡ false → keeps truth ≡ false
not_kept possible True is none = sym is ∙ none
not_kept possible False is none = refl
not_kept possible Unknown is none = refl

pub skipped_rows_are_not_kept : SkippedRowsAreNotKept
skipped_rows_are_not_kept types batch first row names cell predicate is low named same none =
    let here : ℕ → Value = λ column. cell_in (row_of batch.columns row) (column - first) in
    let stats : ℕ → StatsAt = λ column. stats_in batch.columns (column - first) in
    let possible = truth_is_possible stats here predicate (λ (column : ℕ). cells_within types batch row is low (column - first)) in
    ap keeps (same_truth_of names cell here same predicate named) ∙ not_kept (can stats predicate) (truth_of here predicate) possible none
