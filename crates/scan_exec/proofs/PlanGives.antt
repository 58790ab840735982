-- A plan gives of the rows of its tables what it says at the catalog.
use Rattle.std.proofs.Common.{◌≡◌, ℕ, List, [], ◌∷◌, ◌++◌, map, map-id, Option, Some, None, refl, sym, ap, ◌∙◌, arith, if◌then◌else◌}
use Rattle.std.specs.List.{flat_map}
use Rattle.std.proofs.lemmas.List.{map-append}
use Rattle.std.proofs.lemmas.Simd.{map-map}
use Rattle.arrays.specs.Batch.{BatchAt, rows_of}
use Rattle.table_versions.specs.Database.{table_at}
use Rattle.table_versions.specs.StoredTables.{TableAt, CatalogAt, tables_of}
use Rattle.table_versions.specs.Table.{Row}
use Rattle.typed_plan.specs.declared.plan.Columns.{Columns}
use Rattle.typed_plan.specs.declared.plan.Columns.TheVariants.{All, These}
use Rattle.typed_plan.specs.declared.plan.Output.{Output}
use Rattle.typed_plan.specs.declared.plan.Output.TheVariants.{Project, Groups}
use Rattle.typed_plan.specs.HeldTables.{HoldsFrom, tree_schemas, tree_tables}
use Rattle.typed_plan.specs.JoinedRows.{rows_between}
use Rattle.typed_plan.specs.Plan.{Tree, plan_rows, output_rows, tree_rows, taken}
use Rattle.typed_plan.specs.TypedPlans.{IsTyped, is_grouping}
use Rattle.typed_plan.specs.View.{BoundAt, plan_of, tree_of}
use Rattle.typed_plan.proofs.Scans.{some_table}
use Rattle.rewrite.specs.Places.{rows_over}
use Rattle.scan_exec.specs.GivenRows.{rows_from, given_of}
use Rattle.row_sources.specs.Parts.{further_rows, first_batches, parts, numbered_parts}
use Rattle.scan_exec.proofs.PartsJoin.{parts_join, parts_numbered}
use Rattle.scan_exec.proofs.TreeGives.{taken-append, over-append, over_none, over_tables}

-- numbered rows without their numbers
rows_numbered : (f : List Row → List Row) (some : List (ℕ × List Row)) →
    map (λ (given : Option ℕ × Row). given.1) (flat_map (λ (part : ℕ × List Row). map (λ row. (Some part.0, row)) (f part.1)) some)
    ≡ flat_map f (map (λ (part : ℕ × List Row). part.1) some)
rows_numbered f [] = refl
rows_numbered f (part ∷ some) =
    let rows = f part.1 in
    let numbered : List (Option ℕ × Row) = map (λ row. (Some part.0, row)) rows in
    map-append (λ (given : Option ℕ × Row). given.1) numbered (flat_map (λ (one : ℕ × List Row). map (λ row. (Some one.0, row)) (f one.1)) some)
    ∙ ap (λ (more : List Row). map (λ (given : Option ℕ × Row). given.1) numbered ++ more) (rows_numbered f some)
    ∙ ap (λ (first : List Row). first ++ flat_map f (map (λ (one : ℕ × List Row). one.1) some))
    (map-map (λ (given : Option ℕ × Row). given.1) (λ row. (Some part.0, row)) rows ∙ map-id rows)

-- what is given of parts, one after another, is what is given of them all
module _ (tree : Tree) (places : List (List Row)) (columns : Columns) where
  abbrev shown : List Row → List Row
  shown rows = taken columns (rows_over tree (rows ∷ places))

  shown_none : shown [] ≡ []
  shown_none = ap (taken columns) (over_none tree places) ∙ none columns
    where
      none : (some : Columns) → taken some [] ≡ []
      none All = refl
      none (These numbers) = refl

  shown_parts : (some : List (List Row)) → flat_map shown some ≡ shown (flat_map (λ (rows : List Row). rows) some)
  shown_parts [] = sym shown_none
  shown_parts (rows ∷ some) =
      ap (λ (more : List Row). shown rows ++ more) (shown_parts some)
      ∙ sym (ap (taken columns) (over-append tree rows (flat_map (λ (one : List Row). one) some) places)
      ∙ taken-append columns (rows_over tree (rows ∷ places)) (rows_over tree (flat_map (λ (one : List Row). one) some ∷ places)))

-- the rows that are given are those of the range
pub given_rows : (bound : BoundAt) (from to : ℕ) →
    map (λ (given : Option ℕ × Row). given.1) (given_of bound from to)
    ≡ rows_from bound (rows_between from to (flat_map rows_of (first_batches bound.tables)))
given_rows bound from to = by bound.output
  where
    tree : Tree
    tree = tree_of bound.plan

    batches : List BatchAt
    batches = first_batches bound.tables

    range : List Row
    range = rows_between from to (flat_map rows_of batches)

    give : Output → List Row → List Row
    give output rows = output_rows output (rows_over tree (rows ∷ further_rows bound.tables))

    by : (output : Output) →
        map (λ (given : Option ℕ × Row). given.1)
        (if is_grouping output then map (λ row. (None, row)) (give output range)
        else flat_map (λ (part : ℕ × List Row). map (λ row. (Some part.0, row)) (give output part.1)) (numbered_parts from to batches))
        ≡ give output range
    by (Project columns) =
        rows_numbered (give (Project columns)) (numbered_parts from to batches)
        ∙ ap (flat_map (give (Project columns))) (parts_numbered from to batches)
        ∙ shown_parts tree (further_rows bound.tables) columns (parts from to batches)
        ∙ ap (give (Project columns)) (parts_join from to batches)
    by (Groups keys items) =
        let rows = give (Groups keys items) range in
        map-map (λ (given : Option ℕ × Row). given.1) (λ row. (None, row)) rows ∙ map-id rows

-- and those of the plan at the catalog that holds its tables
pub rows_law : (catalog : CatalogAt) (bound : BoundAt) (from to : ℕ) → IsTyped (plan_of bound) →
    tree_schemas (plan_of bound).tree ≡ map (λ (table : TableAt). table.schema) bound.tables → HoldsFrom catalog bound →
    map (λ (given : Option ℕ × Row). given.1) (given_of bound from to) ≡ plan_rows (plan_of bound) (tables_of catalog) from to
rows_law catalog bound from to typed same held = given_rows bound from to ∙ ap (output_rows bound.output) (by bound.tables same held)
  where
    by : (tables : List TableAt) → tree_schemas (tree_of bound.plan) ≡ map (λ (table : TableAt). table.schema) tables →
        map (table_at catalog) (tree_tables (tree_of bound.plan)) ≡ map (λ (table : TableAt). Some table) tables →
        rows_over (tree_of bound.plan) (rows_between from to (flat_map rows_of (first_batches tables)) ∷ further_rows tables)
        ≡ tree_rows (tree_of bound.plan) (tables_of catalog) (rows_between from to)
    by [] columns there = let some = some_table (tree_of bound.plan) [] columns in absurd (omega (arith, some))
    by (table ∷ tables) columns there = over_tables catalog (tree_of bound.plan) (rows_between from to) table tables there
