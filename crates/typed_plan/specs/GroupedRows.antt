-- Groups by first appearance, and aggregates.
use Rattle.std.specs.Prelude.{Bool, true, false, not, ◌&&◌, ◌==◌, if◌then◌else◌, List, [], ◌∷◌}
use Rattle.std.specs.Prelude.{◌++◌, length, map, ℤ}
use Rattle.std.specs.Prelude.{pos, ◌+ℤ◌}
use Rattle.std.specs.List.{filter, fold}
use Rattle.std.specs.Str.{bytes_eq}
use Rattle.std.specs.Ordering.{int_eq}
use Rattle.scan_base.specs.declared.value.Value.{Value}
use Rattle.scan_base.specs.declared.value.Value.TheVariants.{Null, Bool as Flag, Int, Text}
use Rattle.sql_query.specs.declared.query.ColumnName.{ColumnName}
use Rattle.scan_base.specs.Value.{is_null, same_flag}
use Rattle.table_versions.specs.Table.{Row}
use Rattle.typed_plan.specs.Scope.{Scope, named_cell}

-- whether two values are the same in a key, where two nulls are
abbrev pub same_value : Value → Value → Bool
same_value Null Null = true
same_value (Flag a) (Flag b) = same_flag a b
same_value (Int a) (Int b) = int_eq a b
same_value (Text a) (Text b) = bytes_eq a b
same_value _ _ = false

-- whether two keys are the same, value by value
abbrev pub same_key : List Value → List Value → Bool
same_key [] [] = true
same_key (a ∷ as') (b ∷ bs) = same_value a b && same_key as' bs
same_key _ _ = false

-- a key, and the rows that have it
pub record Group : Type 0 where
  pub key : List Value
  pub rows : List Row

-- a row joins the first group of its key, or opens a new last one
abbrev pub with_row : List Value → Row → List Group → List Group
with_row key row [] = record { key = key; rows = row ∷ [] } ∷ []
with_row key row (group ∷ groups) =
    if same_key group.key key then record group { rows = group.rows ++ row ∷ [] } ∷ groups
    else group ∷ with_row key row groups

-- the groups of rows, one by one; without GROUP BY there is one group of all rows, also of none
abbrev pub groups_of : Scope → List ColumnName → List Row → List Group
groups_of scope [] rows = record { key = []; rows = rows } ∷ []
groups_of scope (name ∷ names) rows =
    fold (λ groups row. with_row (map (named_cell scope row) (name ∷ names)) row groups) [] rows

-- the values that are not null
abbrev pub present : List Value → List Value
present values = filter (λ value. not (is_null value)) values

-- a total with a number more
abbrev pub plus : ℤ → Value → ℤ
plus total (Int number) = total +ℤ number
plus total _ = total

-- COUNT of a column's values
abbrev pub count_of : List Value → Value
count_of values = Int (pos (length (present values)))

-- SUM of a column's values: null where there is none
abbrev pub sum_of : List Value → Value
sum_of values = if length (present values) == 0 then Null else Int (fold plus (pos 0) values)
