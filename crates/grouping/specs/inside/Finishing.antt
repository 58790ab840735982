-- Inside: what finishing needs, and what it makes, step by step.
use Rattle.std.specs.Prelude.{◌≡◌, ◌≤◌, ◌<◌, ℕ, All, List, [], ◌∷◌, length, map, get_or}
use Rattle.std.specs.List.{range_with_len}
use Rattle.arrow_types.specs.Answer.{copied_type}
use Rattle.arrow_types.specs.declared.data_type.DataType.{DataType}
use Rattle.arrays.specs.Batch.{BatchAt, rows_of}
use Rattle.arrays.specs.Column.{ColumnAt, values_of}
use Rattle.arrays.specs.TypedLayouts.{AreOf, IsOfType}
use Rattle.array_select.specs.Fitting.{AreLight}
use Rattle.array_select.specs.Room.{share_among, HasRoom}
use Rattle.scan_base.specs.Limits.{most_rows}
use Rattle.scan_base.specs.declared.value.Value.{Value}
use Rattle.typed_plan.specs.declared.plan.Aggregate.{Aggregate}
use Rattle.typed_plan.specs.declared.plan.Aggregate.TheVariants.{Key}
use Rattle.typed_plan.specs.TypedPlans.{item_type}
use Rattle.group_slots.specs.declared.tally.Tally.{Tally}
use Rattle.group_slots.specs.Adding.{IsKept, lists_of}
use Rattle.grouping.specs.declared.batches.GroupRows.{GroupRows}
use Rattle.grouping.specs.AnswerRows.{cell_at, group_row}
use Rattle.grouping.specs.Answers.{IsThere, groups_at}
use Rattle.grouping.specs.FedRows.{AreTyped, GroupsAt, HasItems}

-- how many groups there are, of so many first rows; without columns there is one
abbrev pub group_count : List ℕ → ℕ → ℕ
group_count [] firsts = 1
group_count (key ∷ keys) firsts = firsts

-- keys and items name columns that are there, there is a small tally of each item for each group,
-- and no more groups were answered than there are
pub record IsAnswers (types : List DataType) (keys : List ℕ) (items : List Aggregate) (firsts : ℕ)
    (tallies : List (List Tally)) (given : ℕ) : Type 0 where
  pub has : HasItems types keys items
  pub count : ℕ
  pub few : count ≤ most_rows
  pub kept : IsKept items (group_count keys firsts) count tallies
  pub given_few : given ≤ group_count keys firsts

-- the groups that are answered
abbrev pub groups_in : GroupRows → GroupsAt
groups_in answer = groups_at answer.batches.now (record {
  types = answer.types.now;
  keys = answer.keys.now;
  items = answer.items.now;
  firsts = answer.firsts.now;
  tallies = lists_of answer.tallies.now;
  given = 0;
})

-- keys and items name columns that are there, there is a small tally of each item for each group,
-- and first rows are there
pub record CanAnswer (answer : GroupRows) : Type 0 where
  pub has : HasItems answer.types.now answer.keys.now answer.items.now
  pub count : ℕ
  pub few : count ≤ most_rows
  pub kept : IsKept answer.items.now (length (groups_in answer).found) count
      (lists_of answer.tallies.now)
  pub typed : AreTyped answer.types.now answer.batches.now
  pub there : All (IsThere answer.batches.now) answer.firsts.now

-- what the item at a place gives of so many groups from one on
abbrev pub item_cells : GroupsAt → ℕ → ℕ → ℕ → List Value
item_cells groups item from many =
    map (λ group. cell_at groups group item) (range_with_len from many)

-- the texts of an item have no more bytes than its share, of so many groups from one on
abbrev pub IsItemLight : GroupsAt → ℕ → ℕ → ℕ → Type 0
IsItemLight groups from count item =
    AreLight (share_among (length groups.items)) (item_cells groups item from count)

-- the texts of the first items are light of so many groups from one on
pub record GroupsFit (groups : GroupsAt) (from most items count : ℕ) : Type 0 where
  pub some : 0 < count
  pub within : count ≤ most
  pub light : (item : ℕ) → item < items → IsItemLight groups from count item

-- the column of the item at a place, over so many groups from one on
pub record IsItemColumn (groups : GroupsAt) (item from many : ℕ) (column : ColumnAt) : Type 0 where
  pub values : values_of column ≡ item_cells groups item from many
  pub typed :
      IsOfType (copied_type (item_type groups.keys groups.types (get_or groups.items item (Key 0))))
      column.layout
  pub long : column.len ≡ many

-- the batch of so many groups from one on
pub record IsGroupBatch (groups : GroupsAt) (from many : ℕ) (batch : BatchAt) : Type 0 where
  pub rows : rows_of batch ≡ map (group_row groups) (range_with_len from many)
  pub many_rows : batch.rows ≡ many
  pub typed : AreOf (map copied_type (map (item_type groups.keys groups.types) groups.items))
      batch.columns
  pub many_columns : length batch.columns ≡ length groups.items
  pub cells : (item : ℕ) (d : ColumnAt) → item < length groups.items →
      values_of (get_or batch.columns item d) ≡ item_cells groups item from many

-- the batch of groups from one on, one or more, with few cells and texts
pub record IsNextOf (groups : GroupsAt) (from most : ℕ) (batch : BatchAt) : Type 0 where
  pub some : 0 < batch.rows
  pub few : batch.rows ≤ most
  pub is : IsGroupBatch groups from batch.rows batch
  pub room : HasRoom batch
