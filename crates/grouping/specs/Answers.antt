-- The answer, batch by batch.
use Rattle.std.specs.Prelude.{◌≡◌, ◌≤◌, ◌<◌, ℕ, All, List, [], ◌∷◌, ◌++◌, length, map, drop, Option}
use Rattle.std.specs.Prelude.{Some, None, Result, Ok, Err}
use Rattle.std.specs.declared.alloc.AllocError.{AllocError}
use Rattle.arrow_types.specs.declared.data_type.DataType.{DataType}
use Rattle.arrow_types.specs.Answer.{copied_type}
use Rattle.arrays.specs.Batch.{BatchAt, row_of, rows_of}
use Rattle.arrays.specs.TypedLayouts.{AreOf}
use Rattle.array_select.specs.Room.{most_batch_rows, HasRoom}
use Rattle.scan_base.specs.declared.fault.Fault.{Fault}
use Rattle.scan_base.specs.declared.fault.Fault.TheVariants.{OutOfMemory}
use Rattle.scan_base.specs.declared.value.Value.{Value}
use Rattle.table_versions.specs.Table.{Row}
use Rattle.typed_plan.specs.declared.plan.Aggregate.{Aggregate}
use Rattle.typed_plan.specs.Plan.{answered, groups_by}
use Rattle.typed_plan.specs.TypedPlans.{item_type}
use Rattle.group_slots.specs.declared.tally.Tally.{Tally}
use Rattle.grouping.specs.declared.key.Place.{Place}
use Rattle.grouping.specs.AnswerRows.{answer_rows}
use Rattle.grouping.specs.FedRows.{GroupsAt, Holds, AreTyped, batch_at}
use Rattle.grouping.specs.FoundKeys.{key_in}

-- The types of the columns of the rows that were grouped, the numbers of those that are the key,
-- the items that are wanted of each group, where the first row of each group stands, for each item
-- the tally of each group, and how many groups were answered.
pub record AnswersAt : Type 0 where
  pub types : List DataType
  pub keys : List ℕ
  pub items : List Aggregate
  pub firsts : List Place
  pub tallies : List (List Tally)
  pub given : ℕ

-- the row at a place
abbrev pub placed_row : List BatchAt → Place → Row
placed_row batches place = row_of (batch_at batches place.batch).columns place.row

-- the keys of groups, by their first rows; without columns there is one key
abbrev pub keys_at : List BatchAt → List ℕ → List Place → List (List Value)
keys_at batches [] firsts = [] ∷ []
keys_at batches (key ∷ keys) firsts =
    map (λ first. key_in (key ∷ keys) (placed_row batches first)) firsts

-- the groups that are answered
abbrev pub groups_at : List BatchAt → AnswersAt → GroupsAt
groups_at batches answers = record {
  batches = batches;
  types = answers.types;
  keys = answers.keys;
  items = answers.items;
  found = keys_at batches answers.keys answers.firsts;
  tallies = answers.tallies;
  count = 0;
  refused = None;
}

-- the items of the groups that are still to be answered, where the rows were grouped of these
-- batches
abbrev pub answers_ahead : List BatchAt → AnswersAt → List Row
answers_ahead batches answers = drop answers.given (answer_rows (groups_at batches answers))

-- the types of the items
abbrev pub answer_types : AnswersAt → List DataType
answer_types answers = map copied_type (map (item_type answers.keys answers.types) answers.items)

-- there is such a row
pub record IsThere (batches : List BatchAt) (place : Place) : Type 0 where
  pub batch : place.batch < length batches
  pub row : place.row < (batch_at batches place.batch).rows

-- the batches are of the types, and have the first rows
pub record HasFirstRows (batches : List BatchAt) (answers : AnswersAt) : Type 0 where
  pub typed : AreTyped answers.types batches
  pub there : All (IsThere batches) answers.firsts

-- a batch has the items of the next groups, one or more, and few cells and texts
pub record GivesGroups (batches : List BatchAt) (before : AnswersAt) (batch : BatchAt)
    (after : AnswersAt) : Type 0 where
  pub next : answers_ahead batches before ≡ rows_of batch ++ answers_ahead batches after
  pub some : 0 < batch.rows
  pub few : batch.rows ≤ most_batch_rows
  pub typed : AreOf (answer_types before) batch.columns
  pub room : HasRoom batch
  pub over : HasFirstRows batches after
  pub types : answer_types after ≡ answer_types before

-- The next batch of the answer, or none where no group is left. Where memory is refused the same
-- groups come next.
abbrev pub GivesAnswer : List BatchAt → AnswersAt → Result (Option BatchAt) AllocError →
    AnswersAt → Type 0
GivesAnswer batches before (Ok (Some batch)) after = GivesGroups batches before batch after
GivesAnswer batches before (Ok None) after = (answers_ahead batches before ≡ []) × (after ≡ before)
GivesAnswer batches before (Err _) after = after ≡ before

-- the answer is of the groups' batches and items, and has the items of each group of the rows held,
-- by first appearance
pub record IsAnswerOf (groups : GroupsAt) (answers : AnswersAt) : Type 0 where
  pub over : HasFirstRows groups.batches answers
  pub types : answer_types answers
      ≡ map copied_type (map (item_type groups.keys groups.types) groups.items)
  pub ahead : (rows : List Row) → Holds groups rows →
      answers_ahead groups.batches answers
      ≡ map (λ group. map (answered group) groups.items) (groups_by groups.keys rows)

-- The answer, or what refused it.
abbrev pub Finishes : GroupsAt → Result AnswersAt Fault → Type 0
Finishes groups result = going groups.refused result
  where
    going : Option Fault → Result AnswersAt Fault → Type 0
    going (Some fault) result = result ≡ Err fault
    going None (Ok answers) = IsAnswerOf groups answers
    going None (Err fault) = fault ≡ OutOfMemory
