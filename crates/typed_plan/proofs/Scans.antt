-- A tree reads a table or more.
use Rattle.std.proofs.Common.{◌≡◌, ◌<◌, List, length, map, ap, arith}
use Rattle.std.proofs.lemmas.List.{length-map, length-append}
use Rattle.table_versions.specs.StoredTables.{TableAt}
use Rattle.typed_plan.specs.HeldTables.{tree_schemas}
use Rattle.typed_plan.specs.Plan.{Tree, scan, filtered, joined}

pub some_schema : (tree : Tree) → 0 < length (tree_schemas tree)
some_schema (scan table schema columns) = grind (arith)
some_schema (filtered predicate tree) = some_schema tree
some_schema (joined left right on) =
    let here = some_schema left in
    let both = length-append (tree_schemas left) (tree_schemas right) in
    grind (arith)

-- so do the tables whose columns are those of a tree
pub some_table : (tree : Tree) (tables : List TableAt) → tree_schemas tree ≡ map (λ (table : TableAt). table.schema) tables →
    0 < length tables
some_table tree tables same =
    let some = some_schema tree in
    let long = length-map tables (λ (table : TableAt). table.schema) in
    let equal = ap length same in
    grind (arith)
