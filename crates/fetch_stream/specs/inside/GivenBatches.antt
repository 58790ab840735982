-- Inside: what a source gives.
use Rattle.std.specs.Prelude.{◌≡◌, ◌≤◌, ◌<◌, ◌⊎◌, ◌+◌, false, length, [], ◌++◌, Option, Some, None}
use Rattle.std.specs.Prelude.{Result, Ok, Err}
use Rattle.std.specs.List.{list_any}
use Rattle.arrays.specs.Batch.{BatchAt, rows_of}
use Rattle.scan_base.specs.declared.fault.Fault.{Fault}
use Rattle.scan_base.specs.declared.fault.Fault.TheVariants.{OutOfMemory, ResultTooLarge}
use Rattle.scan_base.specs.Limits.{most_answer_rows}
use Rattle.row_sources.specs.declared.turn.Patience.{Patience}
use Rattle.row_sources.specs.Running.{LooksOn}
use Rattle.row_sources.specs.declared.turn.Turn.{Turn}
use Rattle.row_sources.specs.declared.turn.Turn.TheVariants.{Given, Working, End}
use Rattle.table_versions.specs.Table.{is_long_text}
use Rattle.fetch_stream.specs.declared.source.Source.{Source}
use Rattle.fetch_stream.specs.inside.RowsAhead.{IsSource, AnsweredAs, schema_behind, left_behind}
use Rattle.fetch_stream.specs.inside.RowsAhead.{rows_taken, unseen_behind}

-- a source goes on, with its schema
pub record GoesOn (before after : Source) : Type 0 where
  pub source : IsSource after
  pub schema : schema_behind after ≡ schema_behind before

-- why a source may be refused: memory, or more rows than an answer has
abbrev pub MayRefuseSource : Source → Fault → Type 0
MayRefuseSource before fault = (fault ≡ OutOfMemory)
    ⊎ ((fault ≡ ResultTooLarge)
    × ((last : BatchAt) → most_answer_rows < rows_taken last before + length (left_behind before)))

-- a batch has the next rows, one or more
pub record GivesNext (before : Source) (batch : BatchAt) (after : Source) : Type 0 where
  pub on : GoesOn before after
  pub some : 0 < batch.rows
  pub rows : rows_of batch ++ left_behind after ≡ left_behind before
  pub counted : (last : BatchAt) → rows_taken batch after ≡ rows_taken last before + batch.rows
  pub within : rows_taken batch after ≤ most_answer_rows
  pub columns : AnsweredAs (schema_behind before) batch.columns
  pub short : list_any (list_any is_long_text) (rows_of batch) ≡ false

-- what a source gives
abbrev pub GivesBatch : Source → Result (Option BatchAt) Fault → Source → Type 0
GivesBatch before (Ok (Some batch)) after = GivesNext before batch after
GivesBatch before (Ok None) after = GoesOn before after × (left_behind before ≡ [])
    × (left_behind after ≡ []) × ((last : BatchAt) → rows_taken last after ≡ rows_taken last before)
GivesBatch before (Err fault) after = MayRefuseSource before fault

-- none is given of the rows that were looked at
pub record GivesNoneYet (before after : Source) : Type 0 where
  pub on : GoesOn before after
  pub rows : left_behind after ≡ left_behind before
  pub counted : (last : BatchAt) → rows_taken last after ≡ rows_taken last before

-- what a turn of a source gives
abbrev pub TurnsBatch : Patience → Source → Result (Turn BatchAt) Fault → Source → Type 0
TurnsBatch patience before (Ok (Given batch)) after = GivesBatch before (Ok (Some batch)) after
TurnsBatch patience before (Ok Working) after =
    GivesNoneYet before after × LooksOn patience (unseen_behind before) (unseen_behind after)
TurnsBatch patience before (Ok End) after = GivesBatch before (Ok None) after
TurnsBatch patience before (Err fault) after = GivesBatch before (Err fault) after
