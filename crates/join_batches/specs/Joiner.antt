-- The joined rows of a left batch, batch by batch.
use Rattle.std.specs.Prelude.{◌≡◌, ◌≤◌, ◌<◌, ℕ, All, List, [], ◌++◌, length, map, slice_get}
use Rattle.std.specs.Prelude.{unwrap_or, Option, Some, None, Result, Ok, Err}
use Rattle.std.specs.List.{filter, flat_map}
use Rattle.std.specs.declared.alloc.AllocError.{AllocError}
use Rattle.arrow_types.specs.declared.data_type.DataType.{DataType}
use Rattle.arrow_types.specs.declared.data_type.DataType.TheVariants.{Utf8}
use Rattle.arrow_types.specs.Answer.{copied_type}
use Rattle.scan_base.specs.declared.value.Value.{Value}
use Rattle.scan_base.specs.Predicate.{cell_in}
use Rattle.arrays.specs.Batch.{BatchAt, rows_of}
use Rattle.arrays.specs.TypedLayouts.{AreOf}
use Rattle.array_select.specs.Room.{most_batch_rows, HasRoom}
use Rattle.hash_join.specs.Pairs.{key_values, keys_join}

-- The types of the columns of both sides, the numbers of those that are the key, the rows of the
-- right side in order, and the joined rows of the left batch that are still to be given.
pub record JoinerAt : Type 0 where
  pub left_types : List DataType
  pub right_types : List DataType
  pub left_key : List ℕ
  pub right_key : List ℕ
  pub rights : List (List Value)
  pub ahead : List (List Value)

-- a left row with each right row whose key is equal to its own, in the order of the right rows
abbrev pub joined_with : JoinerAt → List Value → List (List Value)
joined_with joiner left =
    map (λ right. left ++ right)
    (filter
    (λ right. keys_join (key_values joiner.left_key left) (key_values joiner.right_key right))
    joiner.rights)

-- the joined rows of left rows, in the order of nested loops
abbrev pub joined_of : JoinerAt → List (List Value) → List (List Value)
joined_of joiner lefts = flat_map (joined_with joiner) lefts

-- the types of a joined row's cells: those of dictionaries are texts
abbrev pub joined_types : JoinerAt → List DataType
joined_types joiner = map copied_type (joiner.left_types ++ joiner.right_types)

-- the type of a column of joined rows
abbrev pub joined_type : JoinerAt → ℕ → DataType
joined_type joiner number = unwrap_or (slice_get (joined_types joiner) number) Utf8

-- the cells of these columns
abbrev pub shown_cells : List ℕ → List Value → List Value
shown_cells shown row = map (cell_in row) shown

-- a batch has the next joined rows, one or more, and few cells and texts
pub record GivesJoined (before : JoinerAt) (batch : BatchAt) (after : JoinerAt) : Type 0 where
  pub next : before.ahead ≡ rows_of batch ++ after.ahead
  pub some : 0 < batch.rows
  pub few : batch.rows ≤ most_batch_rows
  pub typed : AreOf (joined_types before) batch.columns
  pub room : HasRoom batch
  pub on : after ≡ record before { ahead = after.ahead }

-- The next joined batch, or none where no row is left. Where memory is refused the same rows come
-- next.
abbrev pub JoinsNext : JoinerAt → Result (Option BatchAt) AllocError → JoinerAt → Type 0
JoinsNext before (Ok (Some batch)) after = GivesJoined before batch after
JoinsNext before (Ok None) after = (before.ahead ≡ []) × (after ≡ before)
JoinsNext before (Err _) after = after ≡ before

-- a batch has these columns of the next joined rows, one or more, and few cells and texts
pub record GivesShown (before : JoinerAt) (shown : List ℕ) (batch : BatchAt)
    (after : JoinerAt) : Type 0 where
  pub rows : List (List Value)
  pub next : before.ahead ≡ rows ++ after.ahead
  pub wide : All (λ (row : List Value). length row ≡ length (joined_types before)) rows
  pub cells : rows_of batch ≡ map (shown_cells shown) rows
  pub some : 0 < batch.rows
  pub few : batch.rows ≤ most_batch_rows
  pub typed : AreOf (map (joined_type before) shown) batch.columns
  pub room : HasRoom batch
  pub on : after ≡ record before { ahead = after.ahead }

-- These columns of the next joined rows, or none where no row is left. Where memory is refused the
-- same rows come next.
abbrev pub JoinsShown : JoinerAt → List ℕ → Result (Option BatchAt) AllocError → JoinerAt → Type 0
JoinsShown before shown (Ok (Some batch)) after = GivesShown before shown batch after
JoinsShown before shown (Ok None) after = (before.ahead ≡ []) × (after ≡ before)
JoinsShown before shown (Err _) after = after ≡ before
