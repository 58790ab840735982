-- Rows that are given piece by piece.
use Rattle.std.specs.Prelude.{◌≡◌, ◌≢◌, ◌≤◌, ◌<◌, ℕ, List, [], ◌++◌, length, map, take}
use Rattle.std.specs.Prelude.{Some, None, Result, Ok, Err}
use Rattle.std.specs.List.{last_or}
use Rattle.std.specs.declared.alloc.AllocError.{AllocError}
use Rattle.arrow_types.specs.declared.data_type.DataType.{DataType}
use Rattle.arrays.specs.Batch.{rows_of}
use Rattle.arrays.specs.TypedLayouts.{AreOf}
use Rattle.table_versions.specs.Table.{Row}
use Rattle.typed_plan.specs.TypedPlans.{type_at}
use Rattle.row_sources.specs.declared.piece.Piece.{Piece}
use Rattle.row_sources.specs.declared.turn.Patience.{Patience}
use Rattle.row_sources.specs.declared.turn.Patience.TheVariants.{Endless, Choice}
use Rattle.row_sources.specs.declared.turn.Turn.{Turn}
use Rattle.row_sources.specs.declared.turn.Turn.TheVariants.{Given, Working, End}
use Rattle.row_sources.specs.Picking.{PickAt, given_numbered}
use Rattle.array_select.specs.Room.{most_batch_rows}

-- The types of the columns; the rows that are still to be given, each with the number of the batch
-- of the first place of which it comes; the numbers of the batches of that place that are to be
-- opened, and of those that were; how deep joins stand in each other; and how many rows are still
-- to be looked at: those of the first place, and joined ones.
pub record RowsAt : Type 0 where
  pub types : List DataType
  pub ahead : List (ℕ × Row)
  pub batches : List ℕ
  pub opened : List ℕ
  pub depth : ℕ
  pub unseen : ℕ

-- what is picked of a source
abbrev pub picked_of : PickAt → RowsAt → RowsAt
picked_of pick source = record source {
  types = map (type_at source.types) pick.shown;
  ahead = given_numbered pick source.ahead;
}

-- Rows go on over the same batches. Those opened are the first ones of those that are to be, and go
-- on from those opened before.
pub record GoesOn (before after : RowsAt) : Type 0 where
  pub types : after.types ≡ before.types
  pub batches : after.batches ≡ before.batches
  pub depth : after.depth ≡ before.depth
  pub opening : take (length before.opened) after.opened ≡ before.opened
  pub opened : take (length after.opened) after.batches ≡ after.opened

-- a piece has the next rows, one or more, of the batch that was opened last; they were looked at
pub record FindsPiece (before : RowsAt) (piece : Piece) (after : RowsAt) : Type 0 where
  pub next : before.ahead ≡ map (λ row. (piece.number, row)) (rows_of piece.batch) ++ after.ahead
  pub latest : last_or None after.opened ≡ Some piece.number
  pub some : 0 < piece.batch.rows
  pub few : piece.batch.rows ≤ most_batch_rows
  pub typed : AreOf before.types piece.batch.columns
  pub looked : after.unseen < before.unseen
  pub on : GoesOn before after

-- at the end all batches that were to be opened were
pub record Ends (before after : RowsAt) : Type 0 where
  pub none : before.ahead ≡ []
  pub still : after.ahead ≡ []
  pub all : after.opened ≡ before.batches
  pub on : GoesOn before after

-- none is given of the rows that were looked at
pub record FindsNone (before after : RowsAt) : Type 0 where
  pub same : before.ahead ≡ after.ahead
  pub looked : after.unseen ≤ before.unseen
  pub on : GoesOn before after

-- a turn of this patience is over once the next rows are chosen
abbrev pub EndsAtChoice : Patience → Type 0
EndsAtChoice patience = patience ≡ Choice

-- A turn that finds none yet has a patience with an end. It looked at one row or more, unless it
-- ends at a choice.
abbrev pub LooksOn : Patience → ℕ → ℕ → Type 0
LooksOn patience before after =
    (patience ≢ Endless) × ((EndsAtChoice patience → ⊥) → after < before)

-- What a turn finds: the next piece, or none where no row is left. One whose patience has an end
-- may find none yet.
abbrev pub FindsTurn : Patience → RowsAt → Result (Turn Piece) AllocError → RowsAt → Type 0
FindsTurn patience before (Ok (Given piece)) after = FindsPiece before piece after
FindsTurn patience before (Ok Working) after =
    FindsNone before after × LooksOn patience before.unseen after.unseen
FindsTurn patience before (Ok End) after = Ends before after
FindsTurn patience before (Err _) after = GoesOn before after
