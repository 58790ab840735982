-- What is given of rows, before the first one is.
use Rattle.std.proofs.Common.{◌≡◌, ◌≤◌, ℕ, zero, suc, ◌+◌, Bool, true, false, ◌&&◌, cond, All, List, [], ◌∷◌, ◌++◌, length, map, max, min, refl, sym, ap, ◌∙◌, subst, arith}
use Rattle.std.specs.Prelude.{◌-◌}
use Rattle.std.specs.List.{filter, flat_map, range_with_len, zip}
use Rattle.std.proofs.lemmas.Bool.{lt-ltb}
use Rattle.std.proofs.lemmas.List.{length-map}
use Rattle.std.proofs.lemmas.List.Elements.{All-cons, All-nil, All-map, All-take, All-drop, filter-append}
use Rattle.std.proofs.lemmas.List.Folds.{list_all-append}
use Rattle.std.proofs.lemmas.List.FromFn.{fill_by_all}
use Rattle.std.proofs.lemmas.Option.{unwrap_or-slice_get}
use Rattle.arrow_types.specs.declared.data_type.DataType.{DataType}
use Rattle.arrow_types.specs.declared.data_type.DataType.TheVariants.{Utf8}
use Rattle.arrays.specs.Batch.{BatchAt, rows_of, row_of}
use Rattle.arrays.specs.Column.{slot_of}
use Rattle.scan_base.specs.Predicate.{Pred, cell_in}
use Rattle.table_versions.specs.Table.{Row}
use Rattle.table_versions.proofs.Rowing.{length-rows_of, rows-cons}
use Rattle.typed_plan.specs.declared.plan.Columns.{Columns}
use Rattle.typed_plan.specs.declared.plan.Columns.TheVariants as columns
use Rattle.typed_plan.specs.JoinedRows.{rows_between}
use Rattle.typed_plan.specs.Plan.{taken, is_true}
use Rattle.typed_plan.specs.TypedPlans.{has_columns, type_at, types_taken}
use Rattle.batch_skipping.specs.ChosenColumns.{are_within}
use Rattle.row_sources.specs.ChosenColumns.{numbers_at}
use Rattle.row_sources.specs.Parts.{parts, numbered_rows}
use Rattle.row_sources.specs.Picking.{PickAt, cells_at, passes, holds, given_numbered}
use Rattle.row_sources.specs.PickedRows.{given}
use Rattle.row_sources.proofs.Batched.{numbered_from}
use Rattle.row_sources.proofs.Cells.{map-cells, places}
use Rattle.row_sources.proofs.Giving.{filter-map, filter-all}
use Rattle.row_sources.proofs.Piecing.{given_more}
use Rattle.row_sources.proofs.Ranges.{clamped}

each : {X : Type 0} (P : X → Type 0) → ((x : X) → P x) → (xs : List X) → All P xs
each P here [] = All-nil P
each P here (x ∷ xs) = All-cons P x xs (here x) (each P here xs)

-- what is given is as wide as what is shown
pub given_wide : (pick : PickAt) (width : ℕ) → length pick.shown ≡ width → (rows : List (ℕ × Row)) →
    All (λ (row : ℕ × Row). length row.1 ≡ width) (given_numbered pick rows)
given_wide pick width e rows =
    All-map (λ (row : ℕ × Row). length row.1 ≡ width) (λ (row : ℕ × Row). (row.0, cells_at pick.shown row.1)) (filter (λ (row : ℕ × Row). holds pick row.1) rows)
    (each (λ (row : ℕ × Row). length (cells_at pick.shown row.1) ≡ width) (λ row. length-map pick.shown (cell_in row.1) ∙ e)
    (filter (λ (row : ℕ × Row). holds pick row.1) rows))

-- filters over the columns that are shown
abbrev pub pick_with : List (Pred ℕ) → List ℕ → PickAt
pick_with filters numbers = record { filters = filters; read = numbers; shown = numbers }

-- a row more, where there is a filter more
module _ (filters : List (Pred ℕ)) (predicate : Pred ℕ) (numbers : List ℕ) where
  abbrev more : PickAt
  more = pick_with (filters ++ predicate ∷ []) numbers

  abbrev cells : ℕ × Row → Row
  cells row = cells_at numbers row.1

  abbrev show : ℕ × Row → ℕ × Row
  show row = (row.0, cells_at numbers row.1)

  abbrev few : List (ℕ × Row) → List (ℕ × Row)
  few rows = filter (λ (r : ℕ × Row). holds more r.1) rows

  abbrev many : List (ℕ × Row) → List (ℕ × Row)
  many rows = filter (λ (r : ℕ × Row). holds (pick_with filters numbers) r.1) rows

  abbrev true_in : ℕ × Row → Bool
  true_in row = is_true predicate row.1

  both : (row : ℕ × Row) → passes (filters ++ predicate ∷ []) (cells row) ≡ (passes filters (cells row) && is_true predicate (cells row))
  both row = list_all-append (λ p. is_true p (cells row)) filters (predicate ∷ []) ∙ ap (λ b. passes filters (cells row) && b) (one (is_true predicate (cells row)))
    where
      one : (b : Bool) → (b && true) ≡ b
      one true = refl
      one false = refl

  last_one : (row : ℕ × Row) (rows : List (ℕ × Row)) → map show (few rows) ≡ filter true_in (map show (many rows)) → (c : Bool) →
      map show (cond c (row ∷ few rows) (few rows)) ≡ cond c (show row ∷ filter true_in (map show (many rows))) (filter true_in (map show (many rows)))
  last_one row rows rest true = ap (λ (some : List (ℕ × Row)). show row ∷ some) rest
  last_one row rows rest false = rest

  row_more : (row : ℕ × Row) (rows : List (ℕ × Row)) → map show (few rows) ≡ filter true_in (map show (many rows)) → (b : Bool) →
      map show (cond (b && is_true predicate (cells row)) (row ∷ few rows) (few rows)) ≡ filter true_in (map show (cond b (row ∷ many rows) (many rows)))
  row_more row rows rest true = last_one row rows rest (is_true predicate (cells row))
  row_more row rows rest false = rest

-- a filter more
pub filter_more : (filters : List (Pred ℕ)) (predicate : Pred ℕ) (numbers : List ℕ) (rows : List (ℕ × Row)) →
    given_numbered (pick_with (filters ++ predicate ∷ []) numbers) rows
    ≡ filter (λ (row : ℕ × Row). is_true predicate row.1) (given_numbered (pick_with filters numbers) rows)
filter_more filters predicate numbers [] = refl
filter_more filters predicate numbers (row ∷ rows) =
    ap (λ b. map (show filters predicate numbers) (cond b (row ∷ few filters predicate numbers rows) (few filters predicate numbers rows)))
    (both filters predicate numbers row)
    ∙ row_more filters predicate numbers row rows (filter_more filters predicate numbers rows) (passes filters (cells filters predicate numbers row))

-- a test of what each part gives
pub filter_over : (test : Row → Bool) (g : List Row → List Row) (some : List (ℕ × List Row)) →
    filter (λ (row : ℕ × Row). test row.1) (numbered_rows (map (λ (part : ℕ × List Row). (part.0, g part.1)) some))
    ≡ numbered_rows (map (λ (part : ℕ × List Row). (part.0, filter test (g part.1))) some)
filter_over test g [] = refl
filter_over test g (part ∷ some) =
    let with_number : Row → ℕ × Row = λ row. (part.0, row) in
    let rest = numbered_rows (map (λ (part : ℕ × List Row). (part.0, g part.1)) some) in
    filter-append (λ (row : ℕ × Row). test row.1) (map with_number (g part.1)) rest
    ∙ ap (λ (first : List (ℕ × Row)). first ++ filter (λ (row : ℕ × Row). test row.1) rest) (filter-map (λ (row : ℕ × Row). test row.1) with_number (g part.1))
    ∙ ap (λ (others : List (ℕ × Row)). map with_number (filter test (g part.1)) ++ others) (filter_over test g some)

-- ---- no filters

-- all cells of rows
pub all_cells : (width : ℕ) (rows : List Row) → All (λ (row : Row). length row ≡ width) rows → map (cells_at (range_with_len 0 width)) rows ≡ rows
all_cells width [] wide = refl
all_cells width (row ∷ rows) wide =
    let here : length row ≡ width = wide 0 row (omega arith) in
    ap (λ (first : Row). first ∷ map (cells_at (range_with_len 0 width)) rows) (subst (λ (n : ℕ). map (cell_in row) (range_with_len 0 n) ≡ row) here (map-cells row))
    ∙ ap (λ (rest : List Row). row ∷ rest) (all_cells width rows (λ k d h. wide (suc k) d (omega (arith, h))))

-- the cells that are taken of them
cells_taken : (width : ℕ) (some : Columns) (rows : List Row) → has_columns width some ≡ true → All (λ (row : Row). length row ≡ width) rows →
    map (cells_at (numbers_at some (range_with_len 0 width))) rows ≡ taken some rows
cells_taken width columns.All rows h wide = all_cells width rows wide
cells_taken width (columns.These numbers) rows h wide = ap (λ (places : List ℕ). map (cells_at places) rows) (places width numbers h)

plain_given : (numbers : List ℕ) (rows : List Row) → given (pick_with [] numbers) rows ≡ map (cells_at numbers) rows
plain_given numbers rows = ap (map (cells_at numbers)) (filter-all rows)

-- so much is given of rows that are all shown
pub all_given : (width : ℕ) (rows : List (ℕ × Row)) → All (λ (row : ℕ × Row). length row.1 ≡ width) rows →
    given_numbered (pick_with [] (range_with_len 0 width)) rows ≡ rows
all_given width [] wide = refl
all_given width (row ∷ rows) wide =
    let here : length row.1 ≡ width = wide 0 row (omega arith) in
    ap (λ (first : Row). (row.0, first) ∷ given_numbered (pick_with [] (range_with_len 0 width)) rows)
    (subst (λ (n : ℕ). map (cell_in row.1) (range_with_len 0 n) ≡ row.1) here (map-cells row.1))
    ∙ ap (λ (rest : List (ℕ × Row)). row ∷ rest) (all_given width rows (λ k d h. wide (suc k) d (omega (arith, h))))

-- rows of a batch are as wide as it has columns
rows_wide : (batch : BatchAt) (width from to : ℕ) → length batch.columns ≡ width → All (λ (row : Row). length row ≡ width) (rows_between from to (rows_of batch))
rows_wide batch width from to e =
    All-take (λ (row : Row). length row ≡ width) (to - from) _ (All-drop (λ (row : Row). length row ≡ width) from (rows_of batch)
    (All-map (λ (row : Row). length row ≡ width) (row_of batch.columns) (range_with_len 0 batch.rows)
    (each (λ (j : ℕ). length (row_of batch.columns j) ≡ width) (λ j. length-map batch.columns (λ c. slot_of c j) ∙ e) (range_with_len 0 batch.rows))))

-- what is given of the parts of batches
pub parts_given : (width : ℕ) (some : Columns) → has_columns width some ≡ true → (n from to : ℕ) (batches : List BatchAt) →
    All (λ (batch : BatchAt). length batch.columns ≡ width) batches →
    given_numbered (pick_with [] (numbers_at some (range_with_len 0 width))) (numbered_from n from to batches)
    ≡ numbered_rows (map (λ (part : ℕ × List Row). (part.0, taken some part.1)) (zip (range_with_len n (length batches)) (parts from to batches)))
parts_given width some h n from to [] wide = refl
parts_given width some h n from to (batch ∷ batches) wide =
    let numbers = numbers_at some (range_with_len 0 width) in
    let rows = rows_between from to (rows_of batch) in
    let rest = numbered_from (n + 1) (from - batch.rows) (to - batch.rows) batches in
    given_more (pick_with [] numbers) n rows rest
    ∙ ap (λ (first : List Row). map (λ row. (n, row)) first ++ given_numbered (pick_with [] numbers) rest)
    (plain_given numbers rows ∙ cells_taken width some rows h (rows_wide batch width from to (wide 0 batch (omega arith))))
    ∙ ap (λ (others : List (ℕ × Row)). map (λ row. (n, row)) (taken some rows) ++ others)
    (parts_given width some h (n + 1) (from - batch.rows) (to - batch.rows) batches (λ k d g. wide (suc k) d (omega (arith, g))))

-- ---- the range

-- ranges that are the same within the rows
pub same_range : (n from a b : ℕ) (batches : List BatchAt) →
    max (min a (length (flat_map rows_of batches))) from ≡ max (min b (length (flat_map rows_of batches))) from →
    numbered_from n from a batches ≡ numbered_from n from b batches
same_range n from a b [] e = refl
same_range n from a b (batch ∷ batches) e =
    let rows = rows_of batch in
    let size : length rows ≡ batch.rows = length-rows_of batch in
    let long = rows-cons batch batches in
    let here : max (min a (length rows)) from ≡ max (min b (length rows)) from = omega (arith, e, size, long) in
    let first = sym (clamped from a rows) ∙ ap (λ (to : ℕ). rows_between from to rows) here ∙ clamped from b rows in
    ap (λ (some : List Row). map (λ row. (n, row)) some ++ numbered_from (n + 1) (from - batch.rows) (a - batch.rows) batches) first
    ∙ ap (λ (others : List (ℕ × Row)). map (λ row. (n, row)) (rows_between from b rows) ++ others)
    (same_range (n + 1) (from - batch.rows) (a - batch.rows) (b - batch.rows) batches (omega (arith, e, long)))

-- a range that ends with the rows, and not before it begins
pub clamped_from : (n from to rows : ℕ) (batches : List BatchAt) → rows ≡ length (flat_map rows_of batches) →
    numbered_from n from (max (min to rows) from) batches ≡ numbered_from n from to batches
clamped_from n from to rows batches e = same_range n from (max (min to rows) from) to batches (omega (arith, e))

-- ---- types

pub all_types : (types : List DataType) → map (type_at types) (range_with_len 0 (length types)) ≡ types
all_types types = sym (fill_by_all (type_at types) types (length types) Utf8 refl (λ k h. sym (unwrap_or-slice_get types k Utf8)))

pub types_read : (some : Columns) (types : List DataType) (width : ℕ) → length types ≡ width → has_columns width some ≡ true →
    map (type_at types) (numbers_at some (range_with_len 0 width)) ≡ types_taken some types
types_read columns.All types width e h = ap (λ (n : ℕ). map (type_at types) (range_with_len 0 n)) (sym e) ∙ all_types types
types_read (columns.These numbers) types width e h = ap (map (type_at types)) (places width numbers h)

-- all numbers are within
range_within : (first count width : ℕ) → first + count ≤ width → are_within width (range_with_len first count) ≡ true
range_within first zero width h = refl
range_within first (suc count) width h =
    rw (lt-ltb first width (omega (arith, h)), range_within (first + 1) count width (omega (arith, h))) refl

pub all_within : (width : ℕ) → are_within width (range_with_len 0 width) ≡ true
all_within width = range_within 0 width width (omega arith)

pub numbers_within : (some : Columns) (width : ℕ) → has_columns width some ≡ true → are_within width (numbers_at some (range_with_len 0 width)) ≡ true
numbers_within columns.All width h = all_within width
numbers_within (columns.These numbers) width h = ap (are_within width) (places width numbers h) ∙ h
