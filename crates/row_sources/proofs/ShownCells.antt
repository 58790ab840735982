-- The columns that a result takes of a source's.
use Rattle.std.proofs.Common.{◌≡◌, ℕ, true, List, [], ◌∷◌, length, map, nat_lt, slice_index, unwrap_or, Option, option_map, refl, sym, ap, ◌∙◌}
use Rattle.std.specs.List.{filter}
use Rattle.std.proofs.lemmas.Bool.{ltb-true, lt-ltb, and_parts, and_from}
use Rattle.std.proofs.lemmas.Option.{slice_get-map, slice_get-get_or}
use Rattle.std.proofs.lemmas.Simd.{map-map}
use Rattle.arrow_types.specs.declared.data_type.DataType.{DataType}
use Rattle.arrow_types.specs.declared.data_type.DataType.TheVariants.{Utf8}
use Rattle.scan_base.specs.Predicate.{cell_in}
use Rattle.table_versions.specs.Table.{Row}
use Rattle.typed_plan.specs.declared.plan.Columns.{Columns}
use Rattle.typed_plan.specs.declared.plan.Columns.TheVariants as columns
use Rattle.typed_plan.specs.TypedPlans.{has_columns, type_at, types_taken}
use Rattle.row_sources.specs.Showing.{shown_of, cells}
use Rattle.batch_skipping.specs.ChosenColumns.{are_within}
use Rattle.row_sources.specs.ChosenColumns.{numbers_at}
use Rattle.row_sources.specs.Picking.{PickAt, cells_at, holds}
use Rattle.row_sources.specs.Running.{RowsAt, picked_of}
use Rattle.row_sources.proofs.Cells.{cell-map, within_at}

-- the cells that are taken of those that are read
pub cells_taken : (columns : Columns) (read : List ℕ) (row : Row) → has_columns (length read) columns ≡ true →
    cells_at (numbers_at columns read) row ≡ cells columns (cells_at read row)
cells_taken columns.All read row h = refl
cells_taken (columns.These numbers) read row h = each numbers h
  where
    each : (numbers : List ℕ) → are_within (length read) numbers ≡ true →
        map (cell_in row) (map (slice_index read) numbers) ≡ map (cell_in (map (cell_in row) read)) numbers
    each [] g = refl
    each (number ∷ numbers) g =
        let parts = and_parts (nat_lt number (length read)) (are_within (length read) numbers) g in
        rw (cell-map (cell_in row) read number 0 (ltb-true number (length read) parts.0), each numbers parts.1) refl

-- their numbers are there
pub numbers_there : (columns : Columns) (read : List ℕ) (width : ℕ) → has_columns (length read) columns ≡ true → are_within width read ≡ true →
    are_within width (numbers_at columns read) ≡ true
numbers_there columns.All read width h all = all
numbers_there (columns.These numbers) read width h all = each numbers h
  where
    each : (numbers : List ℕ) → are_within (length read) numbers ≡ true → are_within width (map (slice_index read) numbers) ≡ true
    each [] g = refl
    each (number ∷ numbers) g =
        let parts = and_parts (nat_lt number (length read)) (are_within (length read) numbers) g in
        and_from _ _ (lt-ltb (slice_index read number) width (within_at width read number all (ltb-true number (length read) parts.0))) (each numbers parts.1)

-- and so are their types
types_are : (columns : Columns) (read : List ℕ) (types : List DataType) → has_columns (length read) columns ≡ true →
    map (type_at types) (numbers_at columns read) ≡ types_taken columns (map (type_at types) read)
types_are columns.All read types h = refl
types_are (columns.These numbers) read types h = each numbers h
  where
    each : (numbers : List ℕ) → are_within (length read) numbers ≡ true →
        map (type_at types) (map (slice_index read) numbers) ≡ map (type_at (map (type_at types) read)) numbers
    each [] g = refl
    each (number ∷ numbers) g =
        let parts = and_parts (nat_lt number (length read)) (are_within (length read) numbers) g in
        let one : type_at (map (type_at types) read) number ≡ type_at types (slice_index read number) =
        ap (λ (t : Option DataType). unwrap_or t Utf8) (slice_get-map (type_at types) read number
        ∙ ap (option_map (type_at types)) (slice_get-get_or read number 0 (ltb-true number (length read) parts.0))) in
        rw (one, each numbers parts.1) refl

map-same : {X Y : Type 0} (f g : X → Y) (xs : List X) → ((x : X) → f x ≡ g x) → map f xs ≡ map g xs
map-same f g [] same = refl
map-same f g (x ∷ xs) same = ap (λ first. first ∷ map f xs) (same x) ∙ ap (λ rest. g x ∷ rest) (map-same f g xs same)

-- what is picked of a source with other columns shown
pub shown_is : (columns : Columns) (pick : PickAt) (source : RowsAt) → has_columns (length pick.shown) columns ≡ true →
    picked_of (record pick { shown = numbers_at columns pick.shown }) source ≡ shown_of columns (picked_of pick source)
shown_is columns pick source h =
    let kept = filter (λ (row : ℕ × Row). holds pick row.1) source.ahead in
    let show : ℕ × Row → ℕ × Row = λ row. (row.0, cells columns row.1) in
    let read : ℕ × Row → ℕ × Row = λ row. (row.0, cells_at pick.shown row.1) in
    let rows : map (λ (row : ℕ × Row). (row.0, cells_at (numbers_at columns pick.shown) row.1)) kept ≡ map show (map read kept) =
    map-same (λ (row : ℕ × Row). (row.0, cells_at (numbers_at columns pick.shown) row.1)) (λ (row : ℕ × Row). show (read row)) kept
    (λ row. ap (λ (some : Row). (row.0, some)) (cells_taken columns pick.shown row.1 h)) ∙ sym (map-map show read kept) in
    let made : List DataType → List (ℕ × Row) → RowsAt = λ types ahead. record source { types = types; ahead = ahead } in
    ap (λ (types : List DataType). made types (map (λ (row : ℕ × Row). (row.0, cells_at (numbers_at columns pick.shown) row.1)) kept)) (types_are columns pick.shown source.types h)
    ∙ ap (made (types_taken columns (map (type_at source.types) pick.shown))) rows
