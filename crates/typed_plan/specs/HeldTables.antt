-- The tables that a plan holds.
use Rattle.std.specs.Prelude.{◌≡◌, List, [], ◌∷◌, ◌++◌, map, Some}
use Rattle.arrow_types.specs.declared.schema.Schema.{Schema}
use Rattle.table_versions.specs.Database.{table_at}
use Rattle.table_versions.specs.StoredTables.{TableAt, CatalogAt}
use Rattle.table_versions.specs.Table.{Name}
use Rattle.typed_plan.specs.Plan.{Tree, scan, filtered, joined}
use Rattle.typed_plan.specs.View.{BoundAt, tree_of}

-- the names of the tables that a tree reads, place by place
abbrev pub tree_tables : Tree → List Name
tree_tables (scan table schema columns) = table ∷ []
tree_tables (filtered predicate tree) = tree_tables tree
tree_tables (joined left right on) = tree_tables left ++ tree_tables right

-- the columns that a tree says these tables have
abbrev pub tree_schemas : Tree → List Schema
tree_schemas (scan table schema columns) = schema ∷ []
tree_schemas (filtered predicate tree) = tree_schemas tree
tree_schemas (joined left right on) = tree_schemas left ++ tree_schemas right

-- the tables that a plan holds are the catalog's, of the names that the plan reads
abbrev pub HoldsFrom : CatalogAt → BoundAt → Type 0
HoldsFrom catalog bound =
    map (table_at catalog) (tree_tables (tree_of bound.plan))
    ≡ map (λ (table : TableAt). Some table) bound.tables
