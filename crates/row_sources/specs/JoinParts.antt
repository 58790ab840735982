-- Inside: the parts of a join, before its first row.
use Rattle.std.specs.Prelude.{◌≡◌, ◌-◌, IsTrue, List, [], length, map, nat_lt, ◌≤◌, ℕ, ◌+◌, All}
use Rattle.std.specs.Prelude.{◌++◌}
use Rattle.std.specs.List.{list_all, range_with_len, filter, flat_map}
use Rattle.arrow_types.specs.declared.data_type.DataType.{DataType}
use Rattle.join_batches.specs.declared.joiner.JoinSides.{JoinSides}
use Rattle.join_batches.specs.Joiner.{JoinerAt, joined_types}
use Rattle.table_versions.specs.Table.{Row}
use Rattle.typed_plan.specs.declared.plan.JoinKey.{JoinKey}
use Rattle.row_sources.specs.JoinedRows.{joined_at}
use Rattle.row_sources.specs.Running.{RowsAt, picked_of}
use Rattle.arrow_types.specs.Answer.{copied_type}
use Rattle.scan_base.specs.Limits.{most_rows}
use Rattle.typed_plan.specs.Plan.{fits}
use Rattle.typed_plan.specs.TypedPlans.{spans}

-- the joined rows of numbered left rows that fit, in the order of nested loops, each with the
-- number of its left row
abbrev pub numbered_fits : List JoinKey → List Row → List (ℕ × Row) → List (ℕ × Row)
numbered_fits on rights lefts =
    flat_map (λ (left : ℕ × Row). map (λ row. (left.0, row))
    (filter (fits on) (map (λ right. left.1 ++ right) rights))) lefts

-- Rows can be joined: no batch of them was opened, each is as wide as there are types, the right
-- ones are few enough to be counted, and each key has a cell of both sides.
pub record CanJoin (on : List JoinKey) (left right : RowsAt) : Type 0 where
  pub left_wide : All (λ (row : ℕ × Row). length row.1 ≡ length left.types) left.ahead
  pub right_wide : All (λ (row : ℕ × Row). length row.1 ≡ length right.types) right.ahead
  pub left_unopened : left.opened ≡ []
  pub right_unopened : right.opened ≡ []
  pub few : length right.ahead ≤ most_rows
  pub spanned : IsTrue (list_all (spans (length left.types)) on)
  pub there : IsTrue
      (list_all (λ (key : JoinKey). nat_lt key.right (length left.types + length right.types)) on)

-- joined rows before the first one: all rows of both sides that fit are to come
pub record JoinsRows (on : List JoinKey) (left right made : RowsAt) : Type 0 where
  pub types : made.types ≡ map copied_type (left.types ++ right.types)
  pub ahead : made.ahead ≡ numbered_fits on (map (λ (row : ℕ × Row). row.1) right.ahead) left.ahead
  pub wide : All (λ (row : ℕ × Row). length row.1 ≡ length made.types) made.ahead
  pub batches : made.batches ≡ left.batches
  pub opened : made.opened ≡ []

-- the types of both sides of a join by these keys, and the numbers of their columns that are the
-- key
pub record AreJoinInputs (on : List JoinKey) (left right : List DataType)
    (sides : JoinSides) : Type 0 where
  pub left_types : sides.left.types.items ≡ left
  pub right_types : sides.right.types.items ≡ right
  pub left_key : sides.left.key.items ≡ map (λ (key : JoinKey). key.left) on
  pub right_key : sides.right.key.items ≡ map (λ (key : JoinKey). key.right - length left) on

-- the columns of the key are there, as many at the left as at the right
pub record HasKeys (sides : JoinSides) : Type 0 where
  pub alike : length sides.left.key.items ≡ length sides.right.key.items
  pub left : IsTrue
      (list_all (λ column. nat_lt column (length sides.left.types.items)) sides.left.key.items)
  pub right : IsTrue
      (list_all (λ column. nat_lt column (length sides.right.types.items)) sides.right.key.items)

-- the join with these rows of the right side, where no left batch is there yet
abbrev pub joiner_with : JoinSides → List Row → JoinerAt
joiner_with sides rights = record {
  left_types = sides.left.types.items;
  right_types = sides.right.types.items;
  left_key = sides.left.key.items;
  right_key = sides.right.key.items;
  rights = rights;
  ahead = [];
}

-- all columns of joined rows
abbrev pub all_joined : RowsAt → JoinerAt → RowsAt
all_joined left joiner =
    let all = range_with_len 0 (length (joined_types joiner)) in
    picked_of (record { filters = []; read = all; shown = all }) (joined_at left joiner 0)
