-- Inside: rows that are grouped, and what is given of their groups.
use Rattle.std.specs.Prelude.{◌≡◌, ◌≤◌, ℕ, List, [], length, map, take, None}
use Rattle.std.specs.List.{flat_map}
use Rattle.arrow_types.specs.Answer.{copied_type}
use Rattle.arrow_types.specs.declared.data_type.DataType.{DataType}
use Rattle.arrays.specs.Batch.{BatchAt, rows_of}
use Rattle.scan_base.specs.Limits.{most_rows}
use Rattle.table_versions.specs.Table.{Row}
use Rattle.typed_plan.specs.Plan.{answered, groups_by}
use Rattle.typed_plan.specs.TypedPlans.{item_type}
use Rattle.grouping.specs.Answers.{AnswersAt, HasFirstRows, answer_types, answers_ahead}
use Rattle.grouping.specs.FedRows.{HasItems}
use Rattle.scan_exec.specs.declared.grouped_rows.MadeGroups.{MadeGroups}
use Rattle.scan_exec.specs.declared.grouped_rows.Stage.{Stage}
use Rattle.scan_exec.specs.declared.grouped_rows.Stage.TheVariants.{Waiting, Made, Refused}
use Rattle.scan_exec.specs.declared.grouped_rows.GroupSpec.{GroupSpec}
use Rattle.row_sources.specs.CollectedRows.{plain_rows}
use Rattle.scan_exec.specs.Giving.{GivingAt}
use Rattle.scan_exec.specs.GroupWork.{passing}
use Rattle.row_sources.specs.Picking.{IsPick, pick_of}
use Rattle.row_sources.specs.Running.{RowsAt}

-- the types of what is wanted of each group
abbrev pub wanted_types : GroupSpec → List DataType
wanted_types wanted =
    map copied_type (map (item_type wanted.keys.items wanted.types.items) wanted.items.items)

-- what is wanted of the groups of those rows that the filters let through
abbrev pub wanted_rows : GroupSpec → List Row → List Row
wanted_rows wanted rows =
    map (λ group. map (answered group) wanted.items.items)
    (groups_by wanted.keys.items (passing (pick_of wanted.picker) rows))

-- what is still to be given
abbrev pub rows_left : RowsAt → GroupSpec → Stage → List Row
rows_left rows wanted Waiting = wanted_rows wanted (plain_rows rows.ahead)
rows_left rows wanted (Made made) = answers_ahead made.batches.items made.answers
rows_left rows wanted Refused = []

-- the groups of rows, each of no one batch
abbrev pub of_groups : RowsAt → GroupSpec → Stage → GivingAt
of_groups rows wanted stage = record {
  types = wanted_types wanted;
  ahead = map (λ (row : Row). (None, row)) (rows_left rows wanted stage);
  batches = rows.batches;
  opened = rows.opened;
  unseen = 0;
}

-- what is wanted names columns that are there
pub record IsGroupSpec (wanted : GroupSpec) : Type 0 where
  pub has : HasItems wanted.types.items wanted.keys.items wanted.items.items
  pub pick : IsPick (length wanted.types.items) (pick_of wanted.picker)

-- the rows are of the types, and no more than can be grouped
pub record CanGroup (rows : RowsAt) (wanted : GroupSpec) : Type 0 where
  pub named : IsGroupSpec wanted
  pub types : rows.types ≡ wanted.types.items
  pub few : length rows.ahead ≤ most_rows

-- the answer is of the batches, and of the types of what is wanted
pub record IsAnswering (wanted : GroupSpec) (made : MadeGroups) : Type 0 where
  pub over : HasFirstRows made.batches.items made.answers
  pub types : answer_types made.answers ≡ wanted_types wanted

-- what holds of rows until they are grouped, and of their groups from then on
abbrev pub IsStage : RowsAt → GroupSpec → Stage → Type 0
IsStage rows wanted Waiting = CanGroup rows wanted
IsStage rows wanted (Made made) = IsAnswering wanted made × (rows.opened ≡ rows.batches)
IsStage rows wanted Refused = Unit {0}

-- what was opened is what is first to be opened
pub record IsGrouped (rows : RowsAt) (wanted : GroupSpec) (stage : Stage) : Type 0 where
  pub front : take (length rows.opened) rows.batches ≡ rows.opened
  pub holds : IsStage rows wanted stage

-- the answer has what is wanted of the groups of all rows of the batches
pub record AnswersAll (batches : List BatchAt) (wanted : GroupSpec)
    (answers : AnswersAt) : Type 0 where
  pub over : HasFirstRows batches answers
  pub types : answer_types answers ≡ wanted_types wanted
  pub rows : answers_ahead batches answers ≡ wanted_rows wanted (flat_map rows_of batches)

-- the answer has what is wanted of the groups of all rows, and all batches that were to be opened
-- were
pub record AreMade (before : RowsAt) (wanted : GroupSpec) (made : MadeGroups)
    (after : RowsAt) : Type 0 where
  pub rows : answers_ahead made.batches.items made.answers
      ≡ wanted_rows wanted (plain_rows before.ahead)
  pub answering : IsAnswering wanted made
  pub all : after.opened ≡ before.batches
