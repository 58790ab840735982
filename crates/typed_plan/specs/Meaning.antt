-- The rows that a query means.
use Rattle.std.specs.Prelude.{◌≡◌, ◌≤◌, ℕ, false, if◌then◌else◌, List, [], ◌∷◌, ◌++◌, length, map}
use Rattle.std.specs.Prelude.{pos}
use Rattle.scan_base.specs.declared.value.Value.{Value}
use Rattle.scan_base.specs.declared.value.Value.TheVariants.{Null, Int}
use Rattle.sql_query.specs.declared.query.Expression.{Expression}
use Rattle.sql_query.specs.declared.query.Expression.TheVariants.{Column, CountRows, Count, Sum}
use Rattle.sql_query.specs.declared.query.Select.{Select}
use Rattle.sql_query.specs.declared.query.Select.TheVariants as select
use Rattle.sql_query.specs.Sentence.{Sentence, is_grouped}
use Rattle.table_versions.specs.Table.{Row}
use Rattle.table_versions.specs.Database.{Database}
use Rattle.typed_plan.specs.Scope.{Scope, named_cell}
use Rattle.typed_plan.specs.JoinedRows.{scope_of, kept_rows}
use Rattle.typed_plan.specs.GroupedRows.{Group, groups_of, count_of, sum_of}

-- what an item gives of a row on its own; an aggregate makes groups
abbrev pub value_in_row : Scope → Row → Expression → Value
value_in_row scope row (Column name) = named_cell scope row name
value_in_row scope row _ = Null

-- the selected values of a row
abbrev pub selected : Scope → Select → Row → Row
selected scope select.All row = row
selected scope (select.List items) row = map (λ item. value_in_row scope row item.expression) items

-- what an item gives of a group, whose rows all have the values of the GROUP BY columns
abbrev pub value_in_group : Scope → List Row → Expression → Value
value_in_group scope [] (Column name) = Null
value_in_group scope (row ∷ rows) (Column name) = named_cell scope row name
value_in_group scope rows CountRows = Int (pos (length rows))
value_in_group scope rows (Count name) = count_of (map (λ row. named_cell scope row name) rows)
value_in_group scope rows (Sum name) = sum_of (map (λ row. named_cell scope row name) rows)

-- the selected values of a group
abbrev pub group_values : Scope → Select → Group → Row
group_values scope select.All group = []
group_values scope (select.List items) group =
    map (λ item. value_in_group scope group.rows item.expression) items

-- the rows of a query over the rows a up to, not with, b of its first place
abbrev pub meaning : Sentence → Database → ℕ → ℕ → List Row
meaning query database a b =
    let scope = scope_of query database in
    if is_grouped query
    then map (group_values scope query.select)
    (groups_of scope query.group_by (kept_rows query database a b))
    else map (selected scope query.select) (kept_rows query database a b)

-- Two neighboring ranges of a query that is not grouped give the rows of the range that they make
-- up. So its endpoints may be fetched one by one.
abbrev pub RangesJoin : Type 0
RangesJoin =
    (query : Sentence) (database : Database) (a b c : ℕ) → is_grouped query ≡ false → a ≤ b →
    b ≤ c → meaning query database a b ++ meaning query database b c ≡ meaning query database a c
