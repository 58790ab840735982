-- What a tree gives of the rows of its places.
use Rattle.std.proofs.Common.{◌≡◌, ◌<◌, ℕ, zero, suc, List, [], ◌∷◌, ◌++◌, length, map, drop, filter, Option, Some, refl, sym, ap, ◌∙◌, arith, append_assoc}
use Rattle.std.proofs.Math.Seq.{drop-append_seam}
use Rattle.std.proofs.lemmas.Grind.{flat_map-append}
use Rattle.std.proofs.lemmas.List.{append-nil, length-append, length-map, map-append}
use Rattle.std.proofs.lemmas.List.Elements.{filter-append}
use Rattle.scan_base.specs.Predicate.{cell_in}
use Rattle.table_versions.specs.Database.{Database, table_at}
use Rattle.table_versions.specs.StoredTables.{TableAt, CatalogAt, table_of, tables_of, plain}
use Rattle.table_versions.specs.Table.{Name, Row, Table}
use Rattle.table_versions.proofs.Stores.{table_at-tables_of}
use Rattle.typed_plan.specs.declared.plan.Columns.{Columns}
use Rattle.typed_plan.specs.declared.plan.Columns.TheVariants.{All, These}
use Rattle.typed_plan.specs.declared.plan.JoinKey.{JoinKey}
use Rattle.typed_plan.specs.HeldTables.{tree_tables, tree_schemas}
use Rattle.typed_plan.specs.JoinedRows.{rows_in}
use Rattle.typed_plan.specs.Plan.{Tree, scan, filtered, joined, taken, is_true, fits, joined_rows, tree_rows}
use Rattle.typed_plan.proofs.Scans.{some_schema}
use Rattle.rewrite.specs.Places.{rows_over}

-- ---- rows of the first place, one after another

pub taken-append : (columns : Columns) (xs ys : List Row) → taken columns (xs ++ ys) ≡ taken columns xs ++ taken columns ys
taken-append All xs ys = refl
taken-append (These numbers) xs ys = map-append (λ row. map (cell_in row) numbers) xs ys

-- the places after one or more are the same, whatever the first is
behind_first : (count : ℕ) → 0 < count → (xs ys : List Row) (places : List (List Row)) →
    drop count (xs ∷ places) ≡ drop count (ys ∷ places)
behind_first zero none xs ys places = absurd (omega (arith, none))
behind_first (suc count) some xs ys places = refl

abbrev joined_to : List JoinKey → List Row → Row → List Row
joined_to on rights left = filter (fits on) (map (λ right. left ++ right) rights)

pub over-append : (tree : Tree) (xs ys : List Row) (places : List (List Row)) →
    rows_over tree ((xs ++ ys) ∷ places) ≡ rows_over tree (xs ∷ places) ++ rows_over tree (ys ∷ places)
over-append (scan table schema columns) xs ys places = taken-append columns xs ys
over-append (filtered predicate tree) xs ys places =
    ap (filter (is_true predicate)) (over-append tree xs ys places)
    ∙ filter-append (is_true predicate) (rows_over tree (xs ∷ places)) (rows_over tree (ys ∷ places))
over-append (joined left right on) xs ys places =
    let count = length (tree_schemas left) in
    let some = some_schema left in
    let rights : List Row → List Row = λ rows. rows_over right (drop count (rows ∷ places)) in
    let lefts : List Row → List Row = λ rows. rows_over left (rows ∷ places) in
    let same : (rows : List Row) → rights rows ≡ rights (xs ++ ys) =
    λ rows. ap (rows_over right) (behind_first count some rows (xs ++ ys) places) in
    ap (λ (rows : List Row). joined_rows on rows (rights (xs ++ ys))) (over-append left xs ys places)
    ∙ flat_map-append (joined_to on (rights (xs ++ ys))) (lefts xs) (lefts ys)
    ∙ ap (λ (rows : List Row). joined_rows on (lefts xs) rows ++ joined_rows on (lefts ys) (rights (xs ++ ys))) (sym (same xs))
    ∙ ap (λ (rows : List Row). joined_rows on (lefts xs) (rights xs) ++ joined_rows on (lefts ys) rows) (sym (same ys))

pub over_none : (tree : Tree) (places : List (List Row)) → rows_over tree ([] ∷ places) ≡ []
over_none (scan table schema All) places = refl
over_none (scan table schema (These numbers)) places = refl
over_none (filtered predicate tree) places = ap (filter (is_true predicate)) (over_none tree places)
over_none (joined left right on) places =
    ap (λ (rows : List Row). joined_rows on rows (rows_over right (drop (length (tree_schemas left)) ([] ∷ places)))) (over_none left places)

-- ---- rows of all places

-- a table for each of the columns of tables
tables_wide : (tree : Tree) → length (tree_tables tree) ≡ length (tree_schemas tree)
tables_wide (scan table schema columns) = refl
tables_wide (filtered predicate tree) = tables_wide tree
tables_wide (joined left right on) =
    let here = tables_wide left in
    let there = tables_wide right in
    omega (arith, length-append (tree_tables left) (tree_tables right), length-append (tree_schemas left) (tree_schemas right))

-- a cut of the first of several tables
abbrev cut_first : (List Row → List Row) → List (List Row) → List (List Row)
cut_first cut [] = []
cut_first cut (rows ∷ places) = cut rows ∷ places

cut_wide : (cut : List Row → List Row) (places : List (List Row)) → length (cut_first cut places) ≡ length places
cut_wide cut [] = refl
cut_wide cut (rows ∷ places) = refl

cut_none : (places : List (List Row)) → cut_first (λ rows. rows) places ≡ places
cut_none [] = refl
cut_none (rows ∷ places) = refl

cut-append : (cut : List Row → List Row) (places more : List (List Row)) → 0 < length places →
    cut_first cut (places ++ more) ≡ cut_first cut places ++ more
cut-append cut [] more none = absurd (omega (arith, none))
cut-append cut (rows ∷ places) more some = refl

module _ (database : Database) where
  -- all rows of the table of a name
  abbrev pub rows_at : Name → List Row
  rows_at name = rows_in (table_at database name)

  -- the places of a tree may have others after them
  over_places : (tree : Tree) (cut : List Row → List Row) (more : List (List Row)) →
      rows_over tree (cut_first cut (map rows_at (tree_tables tree)) ++ more) ≡ tree_rows tree database cut
  over_places (scan table schema columns) cut more = refl
  over_places (filtered predicate tree) cut more = ap (filter (is_true predicate)) (over_places tree cut more)
  over_places (joined left right on) cut more =
      let lefts = map rows_at (tree_tables left) in
      let rights = map rows_at (tree_tables right) in
      let front = cut_first cut lefts in
      let rest = rights ++ more in
      let wide : length lefts ≡ length (tree_schemas left) = length-map (tree_tables left) rows_at ∙ tables_wide left in
      let some : 0 < length lefts = omega (arith, wide, some_schema left) in
      let split : cut_first cut (map rows_at (tree_tables left ++ tree_tables right)) ++ more ≡ front ++ rest =
      ap (λ (places : List (List Row)). cut_first cut places ++ more) (map-append rows_at (tree_tables left) (tree_tables right))
      ∙ ap (λ (places : List (List Row)). places ++ more) (cut-append cut lefts rights some)
      ∙ append_assoc front rights more in
      let behind : drop (length (tree_schemas left)) (front ++ rest) ≡ rest =
      ap (λ (n : ℕ). drop n (front ++ rest)) (sym (cut_wide cut lefts ∙ wide)) ∙ drop-append_seam front rest in
      ap (rows_over (joined left right on)) split
      ∙ ap (λ (rows : List Row). joined_rows on rows (rows_over right (drop (length (tree_schemas left)) (front ++ rest)))) (over_places left cut rest)
      ∙ ap (λ (places : List (List Row)). joined_rows on (tree_rows left database cut) (rows_over right places)) behind
      ∙ ap (λ (places : List (List Row)). joined_rows on (tree_rows left database cut) (rows_over right (places ++ more))) (sym (cut_none rights))
      ∙ ap (joined_rows on (tree_rows left database cut)) (over_places right (λ rows. rows) more)

-- the tables that a plan holds are its places
places_are : (catalog : CatalogAt) (names : List Name) (tables : List TableAt) →
    map (table_at catalog) names ≡ map (λ (table : TableAt). Some table) tables →
    map (rows_at (tables_of catalog)) names ≡ map (λ (table : TableAt). (table_of table).rows) tables
places_are catalog [] [] held = refl
places_are catalog [] (table ∷ tables) held = cc
places_are catalog (name ∷ names) [] held = cc
places_are catalog (name ∷ names) (table ∷ tables) held =
    let first : table_at catalog name ≡ Some table = cc in
    let others : map (table_at catalog) names ≡ map (λ (t : TableAt). Some t) tables = cc in
    ap (λ (found : Option Table). rows_in found ∷ map (rows_at (tables_of catalog)) names) (table_at-tables_of catalog name ∙ ap plain first)
    ∙ ap (λ (places : List (List Row)). (table_of table).rows ∷ places) (places_are catalog names tables others)

-- what a tree gives of its places, cut in the first, are its rows at the catalog
pub over_tables : (catalog : CatalogAt) (tree : Tree) (cut : List Row → List Row) (table : TableAt) (tables : List TableAt) →
    map (table_at catalog) (tree_tables tree) ≡ map (λ (t : TableAt). Some t) (table ∷ tables) →
    rows_over tree (cut (table_of table).rows ∷ map (λ (t : TableAt). (table_of t).rows) tables) ≡ tree_rows tree (tables_of catalog) cut
over_tables catalog tree cut table tables held =
    ap (λ (places : List (List Row)). rows_over tree (cut_first cut places)) (sym (places_are catalog (tree_tables tree) (table ∷ tables) held))
    ∙ ap (rows_over tree) (sym (append-nil (cut_first cut (map (rows_at (tables_of catalog)) (tree_tables tree)))))
    ∙ over_places (tables_of catalog) tree cut []
