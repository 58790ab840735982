-- What a scan gives, and what it opens.
use Rattle.std.specs.Prelude.{◌≡◌, ◌≤◌, ◌<◌, ◌⊎◌, ℕ, ◌+◌, List, [], ◌++◌, length, map, take, Option}
use Rattle.std.specs.Prelude.{Some, None, Result, Ok, Err}
use Rattle.std.specs.List.{last_or}
use Rattle.arrays.specs.Batch.{BatchAt, rows_of}
use Rattle.arrays.specs.TypedLayouts.{AreOf}
use Rattle.arrow_types.specs.Answer.{LieBehind}
use Rattle.arrow_types.specs.declared.data_type.DataType.{DataType}
use Rattle.arrow_types.specs.declared.schema.Schema.{Schema}
use Rattle.array_select.specs.Room.{most_batch_rows}
use Rattle.scan_base.specs.Limits.{most_answer_rows}
use Rattle.scan_base.specs.declared.fault.Fault.{Fault}
use Rattle.scan_base.specs.declared.fault.Fault.TheVariants.{OutOfMemory, ResultTooLarge}
use Rattle.table_versions.specs.Table.{Row}
use Rattle.row_sources.specs.declared.turn.Patience.{Patience}
use Rattle.row_sources.specs.Running.{LooksOn}
use Rattle.row_sources.specs.declared.turn.Turn.{Turn}
use Rattle.row_sources.specs.declared.turn.Turn.TheVariants.{Given, Working, End}
use Rattle.typed_plan.specs.View.{BoundAt}
use Rattle.scan_exec.specs.GivenRows.{given_of}
use Rattle.batch_skipping.specs.OpenedBatches.{further_opened, first_opened}

-- The columns of the result; the types of the columns of its batches; the rows that are still to be
-- given, each with the number of the batch of the first place of which it comes, if it is one; the
-- batches that are to be opened, each by its place and its number there, in that order, and those
-- that were; how many rows were given; what refused the scan; and how many rows turns have still to
-- look at.
pub record ScanAt : Type 0 where
  pub schema : Schema
  pub types : List DataType
  pub ahead : List (Option ℕ × Row)
  pub batches : List (ℕ × ℕ)
  pub opened : List (ℕ × ℕ)
  pub given : ℕ
  pub refused : Option Fault
  pub unseen : ℕ

-- the rows that are still to be given
abbrev pub left : ScanAt → List Row
left scan = map (λ given. given.1) scan.ahead

-- what was opened, and what is to be, begins with this
abbrev pub BeginsWith : List (ℕ × ℕ) → List (ℕ × ℕ) → Type 0
BeginsWith whole begin = take (length begin) whole ≡ begin

-- A scan goes on over the same batches. Those opened are the first ones of those that are to be,
-- and go on from those opened before.
pub record Continues (before after : ScanAt) : Type 0 where
  pub schema : after.schema ≡ before.schema
  pub types : after.types ≡ before.types
  pub batches : after.batches ≡ before.batches
  pub opening : BeginsWith after.opened before.opened
  pub opened : BeginsWith before.batches after.opened

-- rows that come of a batch of the first place come of the one that was opened last
abbrev pub IsLatest : Option ℕ → List (ℕ × ℕ) → Type 0
IsLatest None opened = Unit {0}
IsLatest (Some number) opened = last_or None opened ≡ Some (0, number)

-- A batch has the next rows, one or more, in columns of the types; an answer has no more rows than
-- it may.
pub record GivesRows (before : ScanAt) (batch : BatchAt) (after : ScanAt) : Type 0 where
  pub number : Option ℕ
  pub next : before.ahead ≡ map (λ row. (number, row)) (rows_of batch) ++ after.ahead
  pub latest : IsLatest number after.opened
  pub some : 0 < batch.rows
  pub few : batch.rows ≤ most_batch_rows
  pub wide : length batch.columns ≡ length before.types
  pub typed : AreOf before.types batch.columns
  pub counted : after.given ≡ before.given + batch.rows
  pub within : after.given ≤ most_answer_rows
  pub on : Continues before after
  pub refused : after.refused ≡ None

-- why a scan may be refused: memory, or more rows than an answer has
abbrev pub MayRefuse : ScanAt → Fault → Type 0
MayRefuse before fault =
    (fault ≡ OutOfMemory)
    ⊎ ((fault ≡ ResultTooLarge) × (most_answer_rows < before.given + length before.ahead))

-- What a call gives. At the end exactly the batches that were to be opened were, each once. What
-- refused a scan is answered from then on.
abbrev pub Gives : ScanAt → Result (Option BatchAt) Fault → ScanAt → Type 0
Gives before result after = going before.refused result
  where
    going : Option Fault → Result (Option BatchAt) Fault → Type 0
    going (Some fault) result = (result ≡ Err fault) × (after ≡ before)
    going None (Ok (Some batch)) = GivesRows before batch after
    going None (Ok None) = (before.ahead ≡ [])
        × (after ≡ record before { opened = before.batches; unseen = after.unseen })
    going None (Err fault) =
        MayRefuse before fault × (after.refused ≡ Some fault) × Continues before after

-- none is given of the rows that were looked at
pub record GivesNoneYet (before after : ScanAt) : Type 0 where
  pub same : before.ahead ≡ after.ahead
  pub given : after.given ≡ before.given
  pub on : Continues before after
  pub refused : after.refused ≡ None

-- What a turn gives: what a call gives, or nothing yet, of a scan that was not refused, where its
-- patience has an end. Then it looked at rows (`LooksOn`).
abbrev pub GivesTurn : Patience → ScanAt → Result (Turn BatchAt) Fault → ScanAt → Type 0
GivesTurn patience before (Ok (Given batch)) after = Gives before (Ok (Some batch)) after
GivesTurn patience before (Ok Working) after = (before.refused ≡ None) × GivesNoneYet before after
    × LooksOn patience before.unseen after.unseen
GivesTurn patience before (Ok End) after = Gives before (Ok None) after
GivesTurn patience before (Err fault) after = Gives before (Err fault) after

-- the same scan, where what it needs before its first row is made
pub record IsReadied (before after : ScanAt) : Type 0 where
  pub same : before.ahead ≡ after.ahead
  pub given : after.given ≡ before.given
  pub on : Continues before after
  pub refused : after.refused ≡ before.refused

-- a scan of a plan over the rows `from` up to, not with, `to` of its first place, before its first
-- batch
pub record IsBeginning (bound : BoundAt) (from to : ℕ) (scan : ScanAt) : Type 0 where
  pub schema : scan.schema ≡ bound.schema
  pub types : LieBehind scan.schema.fields scan.types
  pub ahead : scan.ahead ≡ given_of bound from to
  pub batches : scan.batches ≡ further_opened bound ++ first_opened from to bound
  pub opened : scan.opened ≡ further_opened bound
  pub given : scan.given ≡ 0
  pub refused : scan.refused ≡ None
