-- Which rows of a source are given, and which of their cells.
use Rattle.std.specs.Prelude.{◌-◌, ℕ, Bool, IsTrue, All, List, length, map, nat_lt}
use Rattle.std.specs.List.{list_all, filter, range_with_len}
use Rattle.arrays.specs.Batch.{row_of}
use Rattle.scan_base.specs.Predicate.{Pred, cell_in, names_only}
use Rattle.scan_base.specs.View.{pred_of}
use Rattle.table_versions.specs.Table.{Row}
use Rattle.typed_plan.specs.Plan.{is_true}
use Rattle.row_sources.specs.declared.batch_slice.BatchSlice.{BatchSlice}
use Rattle.row_sources.specs.declared.picker.Picker.{Picker}
use Rattle.batch_skipping.specs.ChosenColumns.{are_within}

-- the filters, the numbers of the columns that they see, and of those that are given
pub record PickAt : Type 0 where
  pub filters : List (Pred ℕ)
  pub read : List ℕ
  pub shown : List ℕ

-- what a picker picks
abbrev pub pick_of : Picker → PickAt
pick_of picker = record {
  filters = map pred_of picker.filters.items;
  read = picker.read.items;
  shown = picker.shown.items;
}

-- the cells of these numbers
abbrev pub cells_at : List ℕ → Row → Row
cells_at numbers row = map (cell_in row) numbers

-- whether all filters are true
abbrev pub passes : List (Pred ℕ) → Row → Bool
passes filters row = list_all (λ predicate. is_true predicate row) filters

-- whether a row of the source is given
abbrev pub holds : PickAt → Row → Bool
holds pick row = passes pick.filters (cells_at pick.read row)

-- what is given of rows with the numbers of the batches of which they come
abbrev pub given_numbered : PickAt → List (ℕ × Row) → List (ℕ × Row)
given_numbered pick rows =
    map (λ (row : ℕ × Row). (row.0, cells_at pick.shown row.1))
    (filter (λ (row : ℕ × Row). holds pick row.1) rows)

-- the columns are there, of so many of the source
pub record IsPick (width : ℕ) (pick : PickAt) : Type 0 where
  pub read : IsTrue (are_within width pick.read)
  pub shown : IsTrue (are_within width pick.shown)
  pub named : All (λ (predicate : Pred ℕ).
      IsTrue (names_only (λ column. nat_lt column (length pick.read)) predicate)) pick.filters

-- the numbers of a part's rows in its batch
abbrev pub rows_of_part : BatchSlice → List ℕ
rows_of_part part = range_with_len part.from (part.to - part.from)

-- the numbers of those that hold
abbrev pub chosen_rows : PickAt → BatchSlice → List ℕ
chosen_rows pick part =
    filter (λ row. holds pick (row_of part.batch.now.columns row)) (rows_of_part part)
