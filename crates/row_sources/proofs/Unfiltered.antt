-- Rows that are read without their filters, which choose among them later.
use Rattle.std.proofs.Common.{◌≡◌, ℕ, Bool, true, false, cond, All, List, [], ◌∷◌, length, map, nat_lt, refl, sym, ap, ◌∙◌, subst}
use Rattle.std.specs.Prelude.{IsTrue, Vec}
use Rattle.std.specs.Global.{Global}
use Rattle.std.specs.List.{filter, range_with_len}
use Rattle.std.proofs.lemmas.List.{length-map}
use Rattle.std.proofs.lemmas.List.FromFn.{length-range_with_len}
use Rattle.arrow_types.specs.declared.data_type.DataType.{DataType}
use Rattle.scan_base.specs.Predicate.{Pred, cell_in, names_only}
use Rattle.scan_base.specs.View.{pred_of}
use Rattle.table_versions.specs.Table.{Row}
use Rattle.typed_plan.specs.TypedPlans.{type_at}
use Rattle.row_sources.specs.declared.build.FilteredSource.{FilteredSource}
use Rattle.row_sources.specs.FilteredSource.{IsFilteredSource, source_of, filtered_source_at, unfiltered}
use Rattle.row_sources.specs.UnfilteredRows.{IsUnfiltered}
use Rattle.row_sources.specs.declared.row_source.UnfilteredRows.{UnfilteredRows}
use Rattle.batch_skipping.specs.ChosenColumns.{are_within}
use Rattle.row_sources.specs.CollectedRows.{plain_rows}
use Rattle.row_sources.specs.JoinedRows.{source_at}
use Rattle.row_sources.specs.Picking.{PickAt, IsPick, cells_at, given_numbered, holds, passes, pick_of}
use Rattle.row_sources.specs.Running.{RowsAt}
use Rattle.row_sources.proofs.BeginPick.{all_within, pick_with}
use Rattle.row_sources.proofs.Cells.{map-cells}
use Rattle.row_sources.proofs.Giving.{filter-all}

-- the rows that filters let through
abbrev passing : PickAt → List Row → List Row
passing pick rows = filter (holds pick) rows

-- filters that see so many columns, from the first on
abbrev pub choosing : List (Pred ℕ) → ℕ → PickAt
choosing filters width = record { filters = filters; read = range_with_len 0 width; shown = [] }

module _ (filters : List (Pred ℕ)) (columns : List ℕ) where
  abbrev show : ℕ × Row → ℕ × Row
  show row = (row.0, cells_at columns row.1)

  -- a filter sees the same in a row of these columns
  sees : (row : Row) → holds (choosing filters (length columns)) (cells_at columns row) ≡ holds (pick_with filters columns) row
  sees row =
      let width = length-map columns (cell_in row) in
      ap (passes filters) (ap (λ (n : ℕ). cells_at (range_with_len 0 n) (cells_at columns row)) (sym width) ∙ map-cells (cells_at columns row))

  -- all rows, and those that the filters let through
  abbrev every : List (ℕ × Row) → List Row
  every rows = plain_rows (given_numbered (pick_with [] columns) rows)

  abbrev kept : List (ℕ × Row) → List (ℕ × Row)
  kept rows = filter (λ (row : ℕ × Row). holds (pick_with filters columns) row.1) rows

  row_more : (row : ℕ × Row) (rows : List (ℕ × Row)) → passing (choosing filters (length columns)) (every rows) ≡ plain_rows (map show (kept rows)) → (b : Bool) →
      cond b (cells_at columns row.1 ∷ passing (choosing filters (length columns)) (every rows)) (passing (choosing filters (length columns)) (every rows))
      ≡ plain_rows (map show (cond b (row ∷ kept rows) (kept rows)))
  row_more row rows rest true = ap (λ (some : List Row). cells_at columns row.1 ∷ some) rest
  row_more row rows rest false = rest

  -- those that are chosen of all rows are those that the filters let through
  pub chosen_later : (rows : List (ℕ × Row)) →
      passing (choosing filters (length columns)) (every rows) ≡ plain_rows (given_numbered (pick_with filters columns) rows)
  chosen_later [] = refl
  chosen_later (row ∷ rows) =
      let pick = choosing filters (length columns) in
      ap (λ (b : Bool). cond b (cells_at columns row.1 ∷ passing pick (every rows)) (passing pick (every rows))) (sees row.1)
      ∙ row_more row rows (chosen_later rows) (holds (pick_with filters columns) row.1)

-- as many rows as the source has
pub as_many_rows : (columns : List ℕ) (source : RowsAt) → length (unfiltered columns source).ahead ≡ length source.ahead
as_many_rows columns source =
    let all = filter (λ (row : ℕ × Row). holds (pick_with [] columns) row.1) source.ahead in
    length-map all (λ (row : ℕ × Row). (row.0, cells_at columns row.1)) ∙ ap length (filter-all source.ahead)

-- the filters name columns that are there
pub can_choose : (filters : List (Pred ℕ)) (columns : List ℕ) (types : List DataType) (source : RowsAt) →
    IsPick (length source.types) (pick_with filters columns) → types ≡ map (type_at source.types) columns → IsPick (length types) (choosing filters (length columns))
can_choose filters columns types source is e =
    let many : length types ≡ length columns = ap length e ∙ length-map columns (type_at source.types) in
    let long : length columns ≡ length (range_with_len 0 (length columns)) = sym (length-range_with_len 0 (length columns)) in
    record {
      read = subst (λ (n : ℕ). are_within n (range_with_len 0 (length columns)) ≡ true) (sym many) (all_within (length columns));
      shown = refl;
      named = subst (λ (n : ℕ). All (λ (predicate : Pred ℕ). IsTrue (names_only (λ column. nat_lt column n) predicate)) filters) long is.named;
    }

-- ---- the rows of a source, and its filters

module _ (s : FilteredSource) (is : IsFilteredSource s) (made : UnfilteredRows) (rows : made.rows ≡ unfiltered s.columns.items (source_at s.source))
    (f : made.picker.filters ≡ s.filters) (r : made.picker.read.items ≡ range_with_len 0 (length s.columns.items)) (n : made.picker.shown.items ≡ [])
    (t : made.types ≡ s.types) where
  abbrev all : RowsAt
  all = unfiltered s.columns.items (source_at s.source)

  abbrev choice : PickAt
  choice = choosing (map pred_of s.filters.items) (length s.columns.items)

  -- the filters see all columns
  pick_is : pick_of made.picker ≡ choice
  pick_is = rw (f, r, n) refl

  pub is_unfiltered : IsUnfiltered (source_of s) made
  is_unfiltered = record {
    types = ap (λ (types : Vec DataType Global). types.items) t ∙ is.types;
    typed = ap (λ (some : RowsAt). some.types) rows;
    pick = subst (IsPick (length (filtered_source_at s).types)) (sym pick_is)
        (can_choose (map pred_of s.filters.items) s.columns.items (filtered_source_at s).types (source_at s.source) is.pick refl);
    kept = ap (λ (pick : PickAt). passing pick (plain_rows made.rows.ahead)) pick_is
        ∙ ap (λ (some : RowsAt). passing choice (plain_rows some.ahead)) rows
        ∙ chosen_later (map pred_of s.filters.items) s.columns.items (source_at s.source).ahead;
    count = ap (λ (some : RowsAt). length some.ahead) rows ∙ as_many_rows s.columns.items (source_at s.source);
    batches = ap (λ (some : RowsAt). some.batches) rows;
    opened = ap (λ (some : RowsAt). some.opened) rows;
  }
