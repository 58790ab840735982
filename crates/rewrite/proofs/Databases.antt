-- What a tree gives of the rows of its places is what it gives of a database that has them.
use Rattle.std.proofs.Common.{◌≡◌, ◌<◌, ℕ, zero, suc, ◌-◌, Bool, true, false, if◌then◌else◌, List, [], ◌∷◌, ◌++◌, length, map, take, drop, filter, All, Option, Some, None, refl, sym, ap, ◌∙◌, subst, arith, append_assoc}
use Rattle.std.specs.List.{AllByRecursion}
use Rattle.std.specs.Str.{bytes_eq}
use Rattle.std.proofs.Math.Seq.{drop-append_seam}
use Rattle.std.proofs.lemmas.List.{length-append, length-map, map-append}
use Rattle.std.proofs.lemmas.List.Elements.{All-head, All-tail}
use Rattle.arrow_types.specs.declared.schema.Field.{Field}
use Rattle.arrow_types.specs.declared.schema.Schema.{Schema}
use Rattle.table_versions.specs.Database.{Database, table_at, columns_of}
use Rattle.table_versions.specs.Table.{Name, Row, Table}
use Rattle.table_versions.specs.Valid.{IsRow, IsTable, IsDatabase}
use Rattle.typed_plan.proofs.Scans.{some_schema}
use Rattle.typed_plan.specs.HeldTables.{tree_tables, tree_schemas}
use Rattle.typed_plan.specs.JoinedRows.{rows_in, rows_between}
use Rattle.typed_plan.specs.Plan.{Tree, scan, filtered, joined, is_true, joined_rows, tree_rows, PlanAt, output_rows}
use Rattle.typed_plan.specs.TypedPlans.{IsOver}
use Rattle.rewrite.specs.Laws.{AreWide}
use Rattle.rewrite.specs.Places.{rows_over}
use Rattle.rewrite.specs.SameRows.{SameRows, SameOverPlaces}

-- a table for each of the columns of tables
tables_wide : (tree : Tree) → length (tree_tables tree) ≡ length (tree_schemas tree)
tables_wide (scan table schema columns) = refl
tables_wide (filtered predicate tree) = tables_wide tree
tables_wide (joined left right on) =
    let here = tables_wide left in
    let there = tables_wide right in
    omega (arith, length-append (tree_tables left) (tree_tables right), length-append (tree_schemas left) (tree_schemas right))

-- a cut of the first of several tables
abbrev cut_first : (List Row → List Row) → List (List Row) → List (List Row)
cut_first cut [] = []
cut_first cut (rows ∷ places) = cut rows ∷ places

cut_wide : (cut : List Row → List Row) (places : List (List Row)) → length (cut_first cut places) ≡ length places
cut_wide cut [] = refl
cut_wide cut (rows ∷ places) = refl

cut_none : (places : List (List Row)) → cut_first (λ rows. rows) places ≡ places
cut_none [] = refl
cut_none (rows ∷ places) = refl

cut-append : (cut : List Row → List Row) (places more : List (List Row)) → 0 < length places →
    cut_first cut (places ++ more) ≡ cut_first cut places ++ more
cut-append cut [] more none = absurd (omega (arith, none))
cut-append cut (rows ∷ places) more some = refl

-- ---- rows as wide as their table

abbrev Wide : Schema → List Row → Type 0
Wide schema rows = AllByRecursion (λ (row : Row). length row ≡ length schema.fields) rows

row_wide : (fields : List Field) (row : Row) → IsRow fields row → length row ≡ length fields
row_wide [] [] is = refl
row_wide (field ∷ fields) (value ∷ row) is = ap suc (row_wide fields row is.1)
row_wide [] (value ∷ row) is = absurd is
row_wide (field ∷ fields) [] is = absurd is

rows_wide : (schema : Schema) (rows : List Row) → All (IsRow schema.fields) rows → Wide schema rows
rows_wide schema [] all = tt
rows_wide schema (row ∷ rows) all =
    (row_wide schema.fields row (All-head (IsRow schema.fields) row rows all), rows_wide schema rows (All-tail (IsRow schema.fields) row rows all))

wide-take : (schema : Schema) (n : ℕ) (rows : List Row) → Wide schema rows → Wide schema (take n rows)
wide-take schema zero rows h = tt
wide-take schema (suc n) [] h = tt
wide-take schema (suc n) (row ∷ rows) h = (h.0, wide-take schema n rows h.1)

wide-drop : (schema : Schema) (n : ℕ) (rows : List Row) → Wide schema rows → Wide schema (drop n rows)
wide-drop schema zero rows h = h
wide-drop schema (suc n) [] h = tt
wide-drop schema (suc n) (row ∷ rows) h = wide-drop schema n rows h.1

found_is : (entries : Database) (name : Name) (table : Table) → All (λ (entry : Name × Table). IsTable entry.1) entries → table_at entries name ≡ Some table → IsTable table
found_is [] name table all at = cc
found_is (entry ∷ entries) name table all at =
    by (bytes_eq entry.0 name) (found_is entries name table (All-tail (λ (one : Name × Table). IsTable one.1) entry entries all)) at
  where
    by : (same : Bool) → (table_at entries name ≡ Some table → IsTable table) → (if same then Some entry.1 else table_at entries name) ≡ Some table → IsTable table
    by true rest e =
        let is : entry.1 ≡ table = cc in
        subst IsTable is (All-head (λ (one : Name × Table). IsTable one.1) entry entries all)
    by false rest e = rest e

module _ (database : Database) where
  -- all rows of the table of a name
  abbrev rows_at : Name → List Row
  rows_at name = rows_in (table_at database name)

  -- the places of a tree may have others after them
  over_places : (tree : Tree) (cut : List Row → List Row) (more : List (List Row)) →
      rows_over tree (cut_first cut (map rows_at (tree_tables tree)) ++ more) ≡ tree_rows tree database cut
  over_places (scan table schema columns) cut more = refl
  over_places (filtered predicate tree) cut more = ap (filter (is_true predicate)) (over_places tree cut more)
  over_places (joined left right on) cut more =
      let lefts = map rows_at (tree_tables left) in
      let rights = map rows_at (tree_tables right) in
      let front = cut_first cut lefts in
      let rest = rights ++ more in
      let wide : length lefts ≡ length (tree_schemas left) = length-map (tree_tables left) rows_at ∙ tables_wide left in
      let some : 0 < length lefts = omega (arith, wide, some_schema left) in
      let split : cut_first cut (map rows_at (tree_tables left ++ tree_tables right)) ++ more ≡ front ++ rest =
      ap (λ (places : List (List Row)). cut_first cut places ++ more) (map-append rows_at (tree_tables left) (tree_tables right))
      ∙ ap (λ (places : List (List Row)). places ++ more) (cut-append cut lefts rights some)
      ∙ append_assoc front rights more in
      let behind : drop (length (tree_schemas left)) (front ++ rest) ≡ rest =
      ap (λ (n : ℕ). drop n (front ++ rest)) (sym (cut_wide cut lefts ∙ wide)) ∙ drop-append_seam front rest in
      ap (rows_over (joined left right on)) split
      ∙ ap (λ (rows : List Row). joined_rows on rows (rows_over right (drop (length (tree_schemas left)) (front ++ rest)))) (over_places left cut rest)
      ∙ ap (λ (places : List (List Row)). joined_rows on (tree_rows left database cut) (rows_over right places)) behind
      ∙ ap (λ (places : List (List Row)). joined_rows on (tree_rows left database cut) (rows_over right (places ++ more))) (sym (cut_none rights))
      ∙ ap (joined_rows on (tree_rows left database cut)) (over_places right (λ rows. rows) more)

  -- and its rows are as wide as its tables
  places_wide : IsDatabase database → (tree : Tree) (cut : List Row → List Row) → ((schema : Schema) (rows : List Row) → Wide schema rows → Wide schema (cut rows)) →
      (more : List (List Row)) → IsOver tree database → AreWide tree (cut_first cut (map rows_at (tree_tables tree)) ++ more)
  places_wide is (scan table schema columns) cut keeps more over = by (table_at database table) refl over
    where
      by : (there : Option Table) → table_at database table ≡ there → columns_of there ≡ Some schema → Wide schema (cut (rows_in there))
      by None at e = cc
      by (Some found) at e =
          let same : found.schema ≡ schema = cc in
          keeps schema found.rows (subst (λ (some : Schema). Wide some found.rows) same
          (rows_wide found.schema found.rows (found_is database table found is.tables at).rows))
  places_wide is (filtered predicate tree) cut keeps more over = places_wide is tree cut keeps more over
  places_wide is (joined left right on) cut keeps more over =
      let lefts = map rows_at (tree_tables left) in
      let rights = map rows_at (tree_tables right) in
      let front = cut_first cut lefts in
      let rest = rights ++ more in
      let wide : length lefts ≡ length (tree_schemas left) = length-map (tree_tables left) rows_at ∙ tables_wide left in
      let some : 0 < length lefts = omega (arith, wide, some_schema left) in
      let split : cut_first cut (map rows_at (tree_tables left ++ tree_tables right)) ++ more ≡ front ++ rest =
      ap (λ (places : List (List Row)). cut_first cut places ++ more) (map-append rows_at (tree_tables left) (tree_tables right))
      ∙ ap (λ (places : List (List Row)). places ++ more) (cut-append cut lefts rights some)
      ∙ append_assoc front rights more in
      let behind : rest ≡ drop (length (tree_schemas left)) (front ++ rest) =
      sym (ap (λ (n : ℕ). drop n (front ++ rest)) (sym (cut_wide cut lefts ∙ wide)) ∙ drop-append_seam front rest) in
      subst (AreWide (joined left right on)) (sym split) (
        places_wide is left cut keeps rest over.0,
        subst (AreWide right) behind
            (subst (λ (places : List (List Row)). AreWide right (places ++ more)) (cut_none rights)
            (places_wide is right (λ rows. rows) (λ schema rows h. h) more over.1)),
      )

-- what holds over the rows of places holds on every database
pub same_of_places : (new old : PlanAt) → tree_tables new.tree ≡ tree_tables old.tree → SameOverPlaces new old → SameRows new old
same_of_places new old tables same database a b is over =
    let cut = rows_between a b in
    let places = cut_first cut (map (rows_at database) (tree_tables old.tree)) ++ [] in
    let wide = places_wide database is old.tree cut (λ schema rows h. wide-take schema (b - a) (drop a rows) (wide-drop schema a rows h)) [] over in
    ap (output_rows new.output)
    (sym (over_places database new.tree cut []) ∙ ap (λ (names : List Name). rows_over new.tree (cut_first cut (map (rows_at database) names) ++ [])) tables)
    ∙ same places wide
    ∙ ap (output_rows old.output) (over_places database old.tree cut [])
