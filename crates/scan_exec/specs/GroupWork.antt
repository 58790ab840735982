-- What is grouped, and the groups of it.
use Rattle.std.specs.Prelude.{◌≡◌, ◌≤◌, ◌<◌, ℕ, ◌-◌, All, List, ◌++◌, length, take, drop, None}
use Rattle.std.specs.Prelude.{Result, IfOk}
use Rattle.std.specs.List.{filter, flat_map}
use Rattle.arrow_types.specs.declared.data_type.DataType.{DataType}
use Rattle.arrays.specs.Batch.{BatchAt, rows_of}
use Rattle.array_select.specs.Room.{most_batch_rows}
use Rattle.scan_base.specs.Limits.{most_rows}
use Rattle.scan_base.specs.declared.fault.Fault.{Fault}
use Rattle.table_versions.specs.Table.{Row}
use Rattle.typed_plan.specs.declared.plan.Aggregate.{Aggregate}
use Rattle.grouping.specs.FedRows.{GroupsAt, HasItems, Holds, batch_at}
use Rattle.row_sources.specs.CollectedRows.{IsBatchOf}
use Rattle.row_sources.specs.Picking.{PickAt, IsPick, holds, pick_of}
use Rattle.scan_exec.specs.declared.group_work.GroupWork.{GroupWork}

-- the rows that the filters let through
abbrev pub passing : PickAt → List Row → List Row
passing pick rows = filter (holds pick) rows

-- the batches, the types of their columns, the numbers of those that are the key, what is wanted of
-- each group, and the filters
pub record GroupWorkAt : Type 0 where
  pub batches : List BatchAt
  pub types : List DataType
  pub keys : List ℕ
  pub items : List Aggregate
  pub pick : PickAt

-- what is seen of it
abbrev pub work_at : GroupWork → GroupWorkAt
work_at work = record {
  batches = work.shape.batches.now;
  types = work.shape.types.now;
  keys = work.shape.keys.now;
  items = work.shape.items.now;
  pick = pick_of work.picker.now;
}

-- the batches are of the types, keys, items and filters name columns that are there, and no more
-- rows than can be grouped
pub record CanBeGrouped (work : GroupWorkAt) : Type 0 where
  pub batches : All (IsBatchOf work.types) work.batches
  pub has : HasItems work.types work.keys work.items
  pub pick : IsPick (length work.types) work.pick
  pub few : length (flat_map rows_of work.batches) ≤ most_rows

-- the groups are those of these rows, of the batches
pub record AreGroupsOf (work : GroupWorkAt) (rows : List Row) (groups : GroupsAt) : Type 0 where
  pub batches_are : groups.batches ≡ work.batches
  pub types_are : groups.types ≡ work.types
  pub keys_are : groups.keys ≡ work.keys
  pub items_are : groups.items ≡ work.items
  pub refused : groups.refused ≡ None
  pub held : Holds groups rows

-- the batches `from` up to, not with, `to`
abbrev pub batches_between : ℕ → ℕ → List BatchAt → List BatchAt
batches_between from to batches = take (to - from) (drop from batches)

-- how many rows they have
abbrev pub row_count_between : ℕ → ℕ → List BatchAt → ℕ
row_count_between from to batches = length (flat_map rows_of (batches_between from to batches))

-- the groups of those batches, unless memory was refused
abbrev pub GroupsOfPart : GroupWorkAt → ℕ → ℕ → Result GroupsAt Fault → Type 0
GroupsOfPart work from to result = IfOk result
    (AreGroupsOf work (passing work.pick (flat_map rows_of (batches_between from to work.batches))))

-- the groups of all batches, unless memory was refused
abbrev pub GroupsOfAll : GroupWorkAt → Result GroupsAt Fault → Type 0
GroupsOfAll work result =
    IfOk result (AreGroupsOf work (passing work.pick (flat_map rows_of work.batches)))

-- a part of the batches: its rows that the filters let through, and how many of its rows are still
-- to be fed
pub record PartAt : Type 0 where
  pub batches : List BatchAt
  pub types : List DataType
  pub keys : List ℕ
  pub items : List Aggregate
  pub rows : List Row
  pub left : ℕ

-- the part of what is grouped from one batch up to, not with, another, of which so many rows are
-- still to be fed
abbrev pub part_at : GroupWorkAt → ℕ → ℕ → ℕ → PartAt
part_at work from to left = record {
  batches = work.batches;
  types = work.types;
  keys = work.keys;
  items = work.items;
  rows = passing work.pick (flat_map rows_of (batches_between from to work.batches));
  left = left;
}

-- it is the part of what is grouped that begins and ends at these batches
pub record IsPartOf (work : GroupWorkAt) (from to : ℕ) (part : PartAt) : Type 0 where
  pub batches : part.batches ≡ work.batches
  pub types : part.types ≡ work.types
  pub keys : part.keys ≡ work.keys
  pub items : part.items ≡ work.items
  pub rows : part.rows ≡ passing work.pick (flat_map rows_of (batches_between from to work.batches))

-- it is the same part, of which more rows may have been fed
pub record IsSamePart (before after : PartAt) : Type 0 where
  pub batches : after.batches ≡ before.batches
  pub types : after.types ≡ before.types
  pub keys : after.keys ≡ before.keys
  pub items : after.items ≡ before.items
  pub rows : after.rows ≡ before.rows
  pub left : after.left ≤ before.left

-- Inside: the rows of the batches from one up to, not with, another, and after them the first rows
-- of that one.
abbrev pub rows_so_far : ℕ → ℕ → ℕ → List BatchAt → List Row
rows_so_far from at row batches =
    flat_map rows_of (batches_between from at batches) ++ take row (rows_of (batch_at batches at))

-- Inside: the groups are those of the rows before the row `row` of the batch `at`, and the others
-- can be fed.
pub record IsPartFed (work : GroupWorkAt) (from at row to : ℕ) (groups : GroupsAt) : Type 0 where
  pub can : CanBeGrouped work
  pub begun : from ≤ at
  pub ordered : at ≤ to
  pub there : to ≤ length work.batches
  pub within : at < to → row < (batch_at work.batches at).rows
  pub whole : at ≡ to → row ≡ 0
  pub fed : AreGroupsOf work (passing work.pick (rows_so_far from at row work.batches)) groups

-- Inside: as how many rows one counts, and how many are looked at at once.
pub record IsPace (weight rows : ℕ) : Type 0 where
  pub counts : 1 ≤ weight
  pub some : 1 ≤ rows
  pub few : rows ≤ most_batch_rows
