-- Inside: what is still to be given, batch by batch.
use Rattle.std.specs.Prelude.{◌≡◌, ◌≤◌, ◌<◌, ℕ, List, [], ◌++◌, length, map, take, Option, Some}
use Rattle.std.specs.Prelude.{None, Result, Ok, Err}
use Rattle.std.specs.List.{last_or}
use Rattle.std.specs.declared.alloc.AllocError.{AllocError}
use Rattle.arrow_types.specs.declared.data_type.DataType.{DataType}
use Rattle.arrays.specs.Batch.{BatchAt, rows_of}
use Rattle.arrays.specs.TypedLayouts.{AreOf}
use Rattle.table_versions.specs.Table.{Row}
use Rattle.row_sources.specs.Running.{RowsAt, LooksOn}
use Rattle.row_sources.specs.declared.turn.Patience.{Patience}
use Rattle.row_sources.specs.declared.turn.Turn.{Turn}
use Rattle.row_sources.specs.declared.turn.Turn.TheVariants.{Given, Working, End}
use Rattle.array_select.specs.Room.{most_batch_rows}

-- The types of the columns; the rows that are still to be given, each with the number of the batch
-- of the first place of which it comes, if it is one; the numbers of the batches of that place that
-- are to be opened, and of those that were; and how many rows turns have still to look at. Groups
-- are made in one turn, which looks at all.
pub record GivingAt : Type 0 where
  pub types : List DataType
  pub ahead : List (Option ℕ × Row)
  pub batches : List ℕ
  pub opened : List ℕ
  pub unseen : ℕ

-- rows of one batch, each with its number
abbrev pub of_rows : RowsAt → GivingAt
of_rows rows = record {
  types = rows.types;
  ahead = map (λ (row : ℕ × Row). (Some row.0, row.1)) rows.ahead;
  batches = rows.batches;
  opened = rows.opened;
  unseen = rows.unseen;
}

-- it goes on over the same batches
pub record GivingOn (before after : GivingAt) : Type 0 where
  pub types : after.types ≡ before.types
  pub batches : after.batches ≡ before.batches
  pub opening : take (length before.opened) after.opened ≡ before.opened
  pub opened : take (length after.opened) after.batches ≡ after.opened

-- rows that come of a batch come of the one that was opened last
abbrev pub IsOfLast : Option ℕ → List ℕ → Type 0
IsOfLast None opened = Unit {0}
IsOfLast (Some number) opened = last_or None opened ≡ Some number

-- a batch has the next rows, one or more
pub record GivesBatch (before : GivingAt) (batch : BatchAt) (after : GivingAt) : Type 0 where
  pub number : Option ℕ
  pub next : before.ahead ≡ map (λ row. (number, row)) (rows_of batch) ++ after.ahead
  pub latest : IsOfLast number after.opened
  pub some : 0 < batch.rows
  pub few : batch.rows ≤ most_batch_rows
  pub typed : AreOf before.types batch.columns
  pub on : GivingOn before after

-- at the end all batches that were to be opened were
pub record GivesNone (before after : GivingAt) : Type 0 where
  pub none : before.ahead ≡ []
  pub still : after.ahead ≡ []
  pub all : after.opened ≡ before.batches
  pub on : GivingOn before after

-- The next batch, or none where no row is left. Where memory is refused nothing is said of the rows
-- that come next.
abbrev pub GivesNext : GivingAt → Result (Option BatchAt) AllocError → GivingAt → Type 0
GivesNext before (Ok (Some batch)) after = GivesBatch before batch after
GivesNext before (Ok None) after = GivesNone before after
GivesNext before (Err _) after = GivingOn before after

-- none is given of the rows that were looked at
pub record AnswerGivesNoneYet (before after : GivingAt) : Type 0 where
  pub same : before.ahead ≡ after.ahead
  pub on : GivingOn before after

-- What is needed before the first row is made, or memory was refused.
abbrev pub MakesReady : GivingAt → Result (Unit {0}) AllocError → GivingAt → Type 0
MakesReady before (Ok _) after = AnswerGivesNoneYet before after
MakesReady before (Err _) after = GivingOn before after

-- What a turn gives: the next batch, or none where no row is left. One whose patience has an end
-- may give none yet.
abbrev pub AnswerGivesTurn : Patience → GivingAt → Result (Turn BatchAt) AllocError → GivingAt →
    Type 0
AnswerGivesTurn patience before (Ok (Given batch)) after = GivesBatch before batch after
AnswerGivesTurn patience before (Ok Working) after =
    AnswerGivesNoneYet before after × LooksOn patience before.unseen after.unseen
AnswerGivesTurn patience before (Ok End) after = GivesNone before after
AnswerGivesTurn patience before (Err _) after = GivingOn before after
