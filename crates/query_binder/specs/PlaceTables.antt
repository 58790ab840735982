-- Inside: FROM over the stored tables of its places.
use Rattle.std.specs.Prelude.{◌≡◌, List, [], ◌∷◌, ◌++◌, length, map, Option, Some, None}
use Rattle.scan_base.specs.declared.fault.Fault.{Fault}
use Rattle.sql_query.specs.declared.query.Join.{Join}
use Rattle.sql_query.specs.declared.query.Place.{Place}
use Rattle.sql_query.specs.Sentence.{Sentence, place_name}
use Rattle.table_versions.specs.Database.{table_at}
use Rattle.table_versions.specs.Table.{Name}
use Rattle.table_versions.specs.StoredTables.{CatalogAt, TableAt}
use Rattle.typed_plan.specs.declared.plan.Columns.TheVariants.{All}
use Rattle.typed_plan.specs.Scope.{Scope, columns_in, column_of}
use Rattle.query_binder.specs.NameRules.{equality_fault, select_fault}
use Rattle.typed_plan.specs.Faults.{◌then◌, first_in, fault_in}
use Rattle.query_binder.specs.NameClasses.{filter_fault}
use Rattle.typed_plan.specs.Plan.{Tree, scan, joined, PlanAt}
use Rattle.query_binder.specs.PlannedTree.{keys_of, where_kept, numbered_filter, output_for}
use Rattle.query_binder.specs.ResultSchema.{select_fields}

-- the first place and those of the joins, in order
abbrev pub places_of : Place → List Join → List Place
places_of first joins = first ∷ map (λ join. join.place) joins

-- the names that they go by
abbrev pub names_of : Place → List Join → List Name
names_of first joins = place_name first ∷ map (λ join. place_name join.place) joins

-- these are the catalog's tables of the places
abbrev pub AreTablesOf : CatalogAt → List Place → List TableAt → Type 0
AreTablesOf catalog places tables =
    map (λ place. table_at catalog place.table) places
    ≡ map (λ (table : TableAt). Some table) tables

-- the columns of a place over its table
abbrev pub columns_over : Place → TableAt → Scope
columns_over place table = columns_in (place_name place) table.schema.fields

-- all columns of a place over its table
abbrev pub scan_over : Place → TableAt → Tree
scan_over place table = scan place.table table.schema All

-- the faults of each ON, over the tables of the joins
abbrev pub joins_fault_over : Scope → List Join → List TableAt → Option Fault
joins_fault_over scope [] tables = None
joins_fault_over scope (join ∷ joins) [] = None
joins_fault_over scope (join ∷ joins) (table ∷ tables) =
    first_in (equality_fault (length scope) (scope ++ columns_over join.place table)) join.on
    then joins_fault_over (scope ++ columns_over join.place table) joins tables

-- the columns after the joins
abbrev pub scope_over : Scope → List Join → List TableAt → Scope
scope_over scope [] tables = scope
scope_over scope (join ∷ joins) [] = scope
scope_over scope (join ∷ joins) (table ∷ tables) =
    scope_over (scope ++ columns_over join.place table) joins tables

-- the tree with one place more
abbrev pub joined_over : Scope → Tree → Join → TableAt → Tree
joined_over scope tree join table =
    joined tree (scan_over join.place table)
    (keys_of (length scope) (scope ++ columns_over join.place table) join.on)

-- the tree after the joins
abbrev pub tree_over : Scope → Tree → List Join → List TableAt → Tree
tree_over scope tree [] tables = tree
tree_over scope tree (join ∷ joins) [] = tree
tree_over scope tree (join ∷ joins) (table ∷ tables) =
    tree_over (scope ++ columns_over join.place table)
    (joined_over scope tree join table) joins tables

-- the columns of all places
abbrev pub all_over : Sentence → TableAt → List TableAt → Scope
all_over query first others = scope_over (columns_over query.first first) query.joins others

-- GROUP BY, then the list
abbrev pub output_fault : Sentence → Scope → Option Fault
output_fault query scope =
    first_in (λ name. fault_in (column_of scope name)) query.group_by
    then select_fault query scope query.select

-- WHERE, then GROUP BY and the list
abbrev pub rest_fault : Sentence → Scope → Option Fault
rest_fault query scope = filter_fault scope query.filter then output_fault query scope

-- what is found after the places
abbrev pub parts_fault : Sentence → TableAt → List TableAt → Option Fault
parts_fault query first others =
    joins_fault_over (columns_over query.first first) query.joins others
    then rest_fault query (all_over query first others)

-- the plan over the tables of the places
abbrev pub plan_over : Sentence → TableAt → List TableAt → PlanAt
plan_over query first others =
    record {
      tree = where_kept (numbered_filter (all_over query first others) query.filter)
          (tree_over (columns_over query.first first)
          (scan_over query.first first) query.joins others);
      output = output_for query (all_over query first others);
      schema = record { fields = select_fields (all_over query first others) query.select };
    }
