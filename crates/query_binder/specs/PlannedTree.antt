-- The plan of a query: the tree that its parts name.
use Rattle.std.specs.Prelude.{ℕ, ◌+◌, ◌==◌, nat_lt, if◌then◌else◌, List, [], ◌∷◌, ◌++◌, length, map}
use Rattle.std.specs.Prelude.{Option, Some, None}
use Rattle.arrow_types.specs.declared.schema.Schema.{Schema}
use Rattle.scan_base.specs.Predicate.{Pred}
use Rattle.sql_query.specs.declared.query.Term.{Term}
use Rattle.sql_query.specs.declared.query.Equality.{Equality}
use Rattle.sql_query.specs.declared.query.Expression.{Expression}
use Rattle.sql_query.specs.declared.query.Expression.TheVariants as expression
use Rattle.sql_query.specs.declared.query.Join.{Join}
use Rattle.sql_query.specs.declared.query.Place.{Place}
use Rattle.sql_query.specs.declared.query.Select.{Select}
use Rattle.sql_query.specs.declared.query.Select.TheVariants as select
use Rattle.sql_query.specs.declared.query.SelectItem.{SelectItem}
use Rattle.sql_query.specs.Sentence.{Sentence, is_grouped}
use Rattle.table_versions.specs.Table.{Table}
use Rattle.table_versions.specs.Database.{Database, table_at}
use Rattle.typed_plan.specs.declared.plan.Aggregate.{Aggregate}
use Rattle.typed_plan.specs.declared.plan.Aggregate.TheVariants.{Key, CountRows, Count, Sum}
use Rattle.typed_plan.specs.declared.plan.Columns.{Columns}
use Rattle.typed_plan.specs.declared.plan.Columns.TheVariants.{All, These}
use Rattle.typed_plan.specs.declared.plan.JoinKey.{JoinKey}
use Rattle.typed_plan.specs.declared.plan.Output.{Output}
use Rattle.typed_plan.specs.declared.plan.Output.TheVariants.{Project, Groups}
use Rattle.typed_plan.specs.Scope.{Scope, numbered, term_operand}
use Rattle.typed_plan.specs.SettledLiterals.{settled}
use Rattle.typed_plan.specs.JoinedRows.{place_columns, scope_of}
use Rattle.typed_plan.specs.NumberedPredicates.{predicate_bind}
use Rattle.typed_plan.specs.Plan.{Tree, scan, filtered, joined, PlanAt}
use Rattle.query_binder.specs.ResultSchema.{result_schema}

-- the columns of a table, where it is there
abbrev pub schema_in : Option Table → Schema
schema_in None = record { fields = [] }
schema_in (Some table) = table.schema

-- all columns of a place
abbrev pub place_tree : Database → Place → Tree
place_tree database place = scan place.table (schema_in (table_at database place.table)) All

-- the key of two columns, where those of the new place begin at this number: the one of an earlier
-- place is the left one
abbrev pub join_key : ℕ → ℕ → ℕ → JoinKey
join_key seam one other = if nat_lt one seam then record { left = one; right = other }
    else record { left = other; right = one }

-- the keys of an ON, over the columns of the places up to its own
abbrev pub keys_of : ℕ → Scope → List Equality → List JoinKey
keys_of seam scope on =
    map
    (λ equality. join_key seam (numbered scope equality.left) (numbered scope equality.right))
    on

-- a tree of these columns, joined with each further place in turn
abbrev pub joins_tree : Database → Scope → Tree → List Join → Tree
joins_tree database scope tree [] = tree
joins_tree database scope tree (join ∷ joins) =
    let wider = scope ++ place_columns database join.place in
    joins_tree database wider
    (joined tree (place_tree database join.place) (keys_of (length scope) wider join.on)) joins

-- the tree of FROM
abbrev pub from_tree : Sentence → Database → Tree
from_tree query database =
    joins_tree database (place_columns database query.first)
    (place_tree database query.first) query.joins

-- WHERE, over numbers of columns
abbrev pub numbered_filter : Scope → Option (Pred Term) → Option (Pred ℕ)
numbered_filter scope None = None
numbered_filter scope (Some predicate) =
    Some (predicate_bind (term_operand scope) (settled scope predicate))

-- a tree with a filter above it, where there is one
abbrev pub where_kept : Option (Pred ℕ) → Tree → Tree
where_kept None tree = tree
where_kept (Some predicate) tree = filtered predicate tree

-- the number of an item's column
abbrev pub number_of_item : Scope → SelectItem → ℕ
number_of_item scope item = column_number item.expression
  where
    column_number : Expression → ℕ
    column_number (expression.Column name) = numbered scope name
    column_number _ = 0

-- the columns that are selected
abbrev pub chosen : Scope → Select → Columns
chosen scope select.All = All
chosen scope (select.List items) = These (map (number_of_item scope) items)

-- the place of a column among those of GROUP BY, from 0: their number where it is none of them
abbrev pub key_place : List ℕ → ℕ → ℕ
key_place [] number = 0
key_place (key ∷ keys) number = if key == number then 0 else 1 + key_place keys number

-- what an item gives of a group, where these columns are the key
abbrev pub aggregate_of : Scope → List ℕ → Expression → Aggregate
aggregate_of scope keys (expression.Column name) = Key (key_place keys (numbered scope name))
aggregate_of scope keys expression.CountRows = CountRows
aggregate_of scope keys (expression.Count name) = Count (numbered scope name)
aggregate_of scope keys (expression.Sum name) = Sum (numbered scope name)

-- the items that are selected of groups; `*` selects none
abbrev pub aggregates : Scope → List ℕ → Select → List Aggregate
aggregates scope keys select.All = []
aggregates scope keys (select.List items) =
    map (λ item. aggregate_of scope keys item.expression) items

-- what the result takes
abbrev pub output_for : Sentence → Scope → Output
output_for query scope =
    if is_grouped query
    then Groups (map (numbered scope) query.group_by)
    (aggregates scope (map (numbered scope) query.group_by) query.select)
    else Project (chosen scope query.select)

-- the plan of a query at a database
abbrev pub plan_for : Sentence → Database → PlanAt
plan_for query database =
    let scope = scope_of query database in
    record {
      tree = where_kept (numbered_filter scope query.filter) (from_tree query database);
      output = output_for query scope;
      schema = result_schema query database;
    }
