-- Plans as plain data, and the rows that they give.
use Rattle.std.specs.Prelude.{ℕ, Bool, List, [], ◌∷◌, ◌++◌, length, map, pos}
use Rattle.std.specs.List.{list_all, filter, flat_map, fold}
use Rattle.arrow_types.specs.declared.schema.Schema.{Schema}
use Rattle.scan_base.specs.declared.comparison.Comparison.TheVariants.{Equal}
use Rattle.scan_base.specs.declared.value.Value.{Value}
use Rattle.scan_base.specs.declared.value.Value.TheVariants.{Int}
use Rattle.scan_base.specs.Comparison.{compared}
use Rattle.scan_base.specs.Predicate.{Pred, cell_in, truth_of}
use Rattle.scan_base.specs.Truth.{keeps}
use Rattle.table_versions.specs.Table.{Name, Row}
use Rattle.table_versions.specs.Database.{Database, table_at}
use Rattle.typed_plan.specs.declared.plan.Aggregate.{Aggregate}
use Rattle.typed_plan.specs.declared.plan.Aggregate.TheVariants.{Key, CountRows, Count, Sum}
use Rattle.typed_plan.specs.declared.plan.Columns.{Columns}
use Rattle.typed_plan.specs.declared.plan.Columns.TheVariants.{All, These}
use Rattle.typed_plan.specs.declared.plan.JoinKey.{JoinKey}
use Rattle.typed_plan.specs.declared.plan.Output.{Output}
use Rattle.typed_plan.specs.declared.plan.Output.TheVariants.{Project, Groups}
use Rattle.typed_plan.specs.GroupedRows.{Group, with_row, count_of, sum_of}
use Rattle.typed_plan.specs.JoinedRows.{rows_in, rows_between}

-- a plan, without where its parts lie in memory
pub data Tree : Type 0 where
  -- columns of the rows of a table, where the schema has the table's columns
  scan : Name → Schema → Columns → Tree
  -- the rows for which the predicate is true
  filtered : Pred ℕ → Tree → Tree
  -- each row of the left with each row of the right that fits it
  joined : Tree → Tree → List JoinKey → Tree

-- what gives the rows, what the result takes of them, and the result's columns
pub record PlanAt : Type 0 where
  pub tree : Tree
  pub output : Output
  pub schema : Schema

-- these cells of each row
abbrev pub taken : Columns → List Row → List Row
taken All rows = rows
taken (These columns) rows = map (λ row. map (cell_in row) columns) rows

-- whether a predicate over numbers of columns is true
abbrev pub is_true : Pred ℕ → Row → Bool
is_true predicate row = keeps (truth_of (cell_in row) predicate)

-- whether both cells of each key are equal in a joined row; a null is equal to nothing
abbrev pub fits : List JoinKey → Row → Bool
fits on row =
    list_all (λ key. keeps (compared Equal (cell_in row key.left) (cell_in row key.right))) on

-- the joined rows that fit, in the order of nested loops, the left outermost
abbrev pub joined_rows : List JoinKey → List Row → List Row → List Row
joined_rows on lefts rights =
    flat_map (λ left. filter (fits on) (map (λ right. left ++ right) rights)) lefts

-- the rows of a tree, where `cut` says which rows of the first table it reads; of the others it
-- reads all
abbrev pub tree_rows : Tree → Database → (List Row → List Row) → List Row
tree_rows (scan table schema columns) database cut =
    taken columns (cut (rows_in (table_at database table)))
tree_rows (filtered predicate tree) database cut =
    filter (is_true predicate) (tree_rows tree database cut)
tree_rows (joined left right on) database cut =
    joined_rows on (tree_rows left database cut) (tree_rows right database (λ rows. rows))

-- what an item of a grouped plan gives of a group
abbrev pub answered : Group → Aggregate → Value
answered group (Key place) = cell_in group.key place
answered group CountRows = Int (pos (length group.rows))
answered group (Count column) = count_of (map (λ row. cell_in row column) group.rows)
answered group (Sum column) = sum_of (map (λ row. cell_in row column) group.rows)

-- the groups of rows by these cells, by first appearance; without keys there is one group of all
-- rows, also of none
abbrev pub groups_by : List ℕ → List Row → List Group
groups_by [] rows = record { key = []; rows = rows } ∷ []
groups_by (key ∷ keys) rows =
    fold (λ groups row. with_row (map (cell_in row) (key ∷ keys)) row groups) [] rows

-- what the result takes of rows: cells of each row, or what the items give of each group
abbrev pub output_rows : Output → List Row → List Row
output_rows (Project columns) rows = taken columns rows
output_rows (Groups keys items) rows =
    map (λ group. map (answered group) items) (groups_by keys rows)

-- the rows of a plan over the rows a up to, not with, b of its first table
abbrev pub plan_rows : PlanAt → Database → ℕ → ℕ → List Row
plan_rows plan database a b =
    output_rows plan.output (tree_rows plan.tree database (rows_between a b))
