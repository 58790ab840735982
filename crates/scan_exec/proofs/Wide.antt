-- Rows of tables are as wide as the tables.
use Rattle.std.proofs.Common.{◌≡◌, ℕ, zero, suc, ◌-◌, All, List, [], ◌∷◌, ◌++◌, length, map, take, drop, refl, ◌∙◌, subst}
use Rattle.std.specs.List.{AllByRecursion, flat_map, range_with_len}
use Rattle.std.proofs.lemmas.List.{length-map}
use Rattle.std.proofs.lemmas.List.Elements.{All-head, All-tail}
use Rattle.arrow_types.specs.declared.schema.Schema.{Schema}
use Rattle.arrays.specs.Batch.{BatchAt, row_of, rows_of}
use Rattle.arrays.specs.Column.{ColumnAt, slot_of}
use Rattle.arrays.specs.TypedLayouts.{AreOfTypes}
use Rattle.table_versions.specs.StoredTables.{TableAt, table_of}
use Rattle.table_versions.specs.Table.{Row}
use Rattle.typed_plan.specs.HeldTables.{tree_schemas}
use Rattle.typed_plan.specs.JoinedRows.{rows_between}
use Rattle.typed_plan.specs.Plan.{Tree, scan, filtered, joined}
use Rattle.rewrite.specs.Laws.{AreWide}
use Rattle.rewrite.specs.Places.{first_rows}
use Rattle.row_sources.proofs.BeginTree.{fields_wide}

-- rows of so many cells
abbrev pub Wide : ℕ → List Row → Type 0
Wide width rows = AllByRecursion (λ (row : Row). length row ≡ width) rows

wide_append : (width : ℕ) (xs ys : List Row) → Wide width xs → Wide width ys → Wide width (xs ++ ys)
wide_append width [] ys a b = b
wide_append width (x ∷ xs) ys a b = (a.0, wide_append width xs ys a.1 b)

wide_take : (width n : ℕ) (xs : List Row) → Wide width xs → Wide width (take n xs)
wide_take width zero xs a = tt
wide_take width (suc n) [] a = tt
wide_take width (suc n) (x ∷ xs) a = (a.0, wide_take width n xs a.1)

wide_drop : (width n : ℕ) (xs : List Row) → Wide width xs → Wide width (drop n xs)
wide_drop width zero xs a = a
wide_drop width (suc n) [] a = tt
wide_drop width (suc n) (x ∷ xs) a = wide_drop width n xs a.1

pub wide_between : (width from to : ℕ) (rows : List Row) → Wide width rows → Wide width (rows_between from to rows)
wide_between width from to rows a = wide_take width (to - from) (drop from rows) (wide_drop width from rows a)

-- the rows of a batch
pub batch_wide : (batch : BatchAt) (width : ℕ) → length batch.columns ≡ width → Wide width (rows_of batch)
batch_wide batch width e = each (range_with_len 0 batch.rows)
  where
    each : (places : List ℕ) → Wide width (map (row_of batch.columns) places)
    each [] = tt
    each (j ∷ places) = (length-map batch.columns (λ (column : ColumnAt). slot_of column j) ∙ e, each places)

batches_wide : (width : ℕ) (batches : List BatchAt) → All (λ (batch : BatchAt). length batch.columns ≡ width) batches → Wide width (flat_map rows_of batches)
batches_wide width [] all = tt
batches_wide width (batch ∷ batches) all =
    let has : BatchAt → Type 0 = λ b. length b.columns ≡ width in
    wide_append width (rows_of batch) (flat_map rows_of batches) (batch_wide batch width (All-head has batch batches all))
    (batches_wide width batches (All-tail has batch batches all))

-- the rows of a table
pub table_wide : (table : TableAt) → All (λ (batch : BatchAt). AreOfTypes table.schema.fields batch.columns) table.batches →
    Wide (length table.schema.fields) (table_of table).rows
table_wide table typed = batches_wide (length table.schema.fields) table.batches (fields_wide table.schema.fields table.batches typed)

-- rows of places, as wide as their tables
abbrev pub PlacesWide : List Schema → List (List Row) → Type 0
PlacesWide [] places = Unit {0}
PlacesWide (schema ∷ schemas) places = Wide (length schema.fields) (first_rows places) × PlacesWide schemas (drop 1 places)

pub drop_one : {X : Type 0} (n : ℕ) (xs : List X) → drop n (drop 1 xs) ≡ drop (suc n) xs
drop_one zero [] = refl
drop_one (suc n) [] = refl
drop_one n (x ∷ xs) = refl

places_split : (xs ys : List Schema) (places : List (List Row)) → PlacesWide (xs ++ ys) places → PlacesWide xs places × PlacesWide ys (drop (length xs) places)
places_split [] ys places wide = (tt, wide)
places_split (x ∷ xs) ys places wide =
    let rest = places_split xs ys (drop 1 places) wide.1 in
    ((wide.0, rest.0), subst (PlacesWide ys) (drop_one (length xs) places) rest.1)

pub are_wide : (tree : Tree) (places : List (List Row)) → PlacesWide (tree_schemas tree) places → AreWide tree places
are_wide (scan table schema columns) places wide = wide.0
are_wide (filtered predicate tree) places wide = are_wide tree places wide
are_wide (joined left right on) places wide =
    let both = places_split (tree_schemas left) (tree_schemas right) places wide in
    (are_wide left places both.0, are_wide right (drop (length (tree_schemas left)) places) both.1)
