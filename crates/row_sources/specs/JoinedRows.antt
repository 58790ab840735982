-- Inside: joined rows, and what holds of what gives them.
use Rattle.std.specs.Prelude.{◌≡◌, ◌<◌, ◌⊎◌, ℕ, ◌+◌, List, [], ◌++◌, length, map, take, Some, None}
use Rattle.std.specs.Prelude.{Result, Ok, Err}
use Rattle.std.specs.List.{flat_map, last_or}
use Rattle.join_batches.specs.Joiner.{JoinerAt, joined_with, joined_types}
use Rattle.table_versions.specs.Table.{Row}
use Rattle.row_sources.specs.declared.rows.Source.{Source}
use Rattle.row_sources.specs.declared.rows.Source.TheVariants.{Place, Joined}
use Rattle.row_sources.specs.PlaceCursor.{IsPlaced}
use Rattle.row_sources.specs.Running.{RowsAt, GoesOn, FindsNone, Ends, LooksOn}
use Rattle.row_sources.specs.Sources.{rows_of_place}
use Rattle.row_sources.specs.declared.turn.Patience.{Patience}
use Rattle.row_sources.specs.declared.turn.Turn.{Turn}
use Rattle.row_sources.specs.declared.turn.Turn.TheVariants.{Given, Working, End}
use Rattle.std.specs.declared.alloc.AllocError.{AllocError}

-- the joined rows of left rows, each with the number that its left row has
abbrev pub numbered_joined : JoinerAt → List (ℕ × Row) → List (ℕ × Row)
numbered_joined joiner lefts =
    flat_map (λ (left : ℕ × Row). map (λ row. (left.0, row)) (joined_with joiner left.1)) lefts

-- joined rows: those of the left batch, of this number, and then those of the left rows after it
abbrev pub joined_at : RowsAt → JoinerAt → ℕ → RowsAt
joined_at left joiner number = record {
  types = joined_types joiner;
  ahead = map (λ row. (number, row)) joiner.ahead ++ numbered_joined joiner left.ahead;
  batches = left.batches;
  opened = left.opened;
  depth = left.depth + 1;
  unseen = left.unseen
      + length (map (λ row. (number, row)) joiner.ahead ++ numbered_joined joiner left.ahead);
}

-- the rows of a source that are still to be given
abbrev pub source_at : Source → RowsAt
source_at (Place place) = rows_of_place place
source_at (Joined left joining) = joined_at left.value joining.joiner joining.number

-- the left rows are of the joiner's types, what was opened of them is what is first to be, and the
-- joiner's left batch comes of the batch that was opened last
pub record IsJoined (left : RowsAt) (joiner : JoinerAt) (number : ℕ) : Type 0 where
  pub typed : left.types ≡ joiner.left_types
  pub front : take (length left.opened) left.batches ≡ left.opened
  pub latest : (joiner.ahead ≡ []) ⊎ (last_or None left.opened ≡ Some number)

-- what holds of a source
abbrev pub IsSource : Source → Type 0
IsSource (Place place) = IsPlaced place.table place.cursor
IsSource (Joined left joining) = IsJoined left.value joining.joiner joining.number

-- What a turn to the next left batch does: the same joined rows are to come, whether there is one,
-- or none yet.
abbrev pub FeedsNext : Patience → RowsAt → Result (Turn (Unit {0})) AllocError → RowsAt → Type 0
FeedsNext patience before (Ok (Given _)) after = FindsNone before after
FeedsNext patience before (Ok Working) after =
    FindsNone before after × LooksOn patience before.unseen after.unseen
FeedsNext patience before (Ok End) after = Ends before after
FeedsNext patience before (Err _) after = GoesOn before after

-- one that found a left batch leaves fewer left rows
abbrev pub TakesLeft : Result (Turn (Unit {0})) AllocError → ℕ → ℕ → Type 0
TakesLeft (Ok (Given _)) before after = after < before
TakesLeft _ before after = Unit {0}
