-- Inside: how a stream goes on that was not refused.
use Rattle.std.specs.Prelude.{◌≡◌, ◌≤◌, ◌<◌, ◌⊎◌, ◌+◌, List, [], ◌∷◌, ◌++◌, length, Result, Ok, Err}
use Rattle.scan_base.specs.declared.fault.Fault.{Fault}
use Rattle.scan_base.specs.declared.fault.Fault.TheVariants.{OutOfMemory, ResultTooLarge}
use Rattle.scan_base.specs.Limits.{most_answer_rows, most_message_bytes}
use Rattle.arrow_types.specs.declared.schema.Schema.{Schema}
use Rattle.row_sources.specs.declared.turn.Patience.{Patience}
use Rattle.row_sources.specs.Running.{LooksOn}
use Rattle.row_sources.specs.declared.turn.Turn.{Turn}
use Rattle.row_sources.specs.declared.turn.Turn.TheVariants.{Given, Working, End}
use Rattle.table_versions.specs.Table.{Row}
use Rattle.flight_info.specs.Payloads.{Payload, FitMessages}
use Rattle.fetch_stream.specs.Streams.{Parcel, most_message_rows}
use Rattle.fetch_stream.specs.declared.cutter.Cutter.{Cutter}
use Rattle.fetch_stream.specs.declared.source.Source.{Source}
use Rattle.fetch_stream.specs.inside.RowsAhead.{IsGoing, uncut, schema_behind, left_behind}
use Rattle.fetch_stream.specs.inside.RowsAhead.{rows_cut}
use Rattle.fetch_stream.specs.inside.RowsAhead.{unseen_behind}
use Rattle.fetch_stream.specs.inside.WrittenPayloads.{SaysRows, SaysSchema}

-- a parcel is the payload of the schema alone
pub record SaysFirst (parcel : Parcel) (schema : Schema) : Type 0 where
  pub payload : Payload
  pub alone : parcel ≡ payload ∷ []
  pub said : SaysSchema payload schema
  pub fits : length payload ≤ most_message_bytes

-- the first parcel says the schema
abbrev pub GivesFirst : Schema → Result (Turn Parcel) Fault → Type 0
GivesFirst schema (Ok (Given parcel)) = SaysFirst parcel schema
GivesFirst schema (Ok Working) = ⊥
GivesFirst schema (Ok End) = ⊥
GivesFirst schema (Err fault) = fault ≡ OutOfMemory

-- the rows that are still to be given: of the batch that is being cut, and after it
abbrev pub rows_left : Cutter → Source → List Row
rows_left cutter source = uncut cutter ++ left_behind source

-- a stream goes on, with its schema
pub record Keeps (source : Source) (new_cutter : Cutter) (new : Source) : Type 0 where
  pub going : IsGoing new_cutter new
  pub schema : schema_behind new ≡ schema_behind source

-- no row is left
abbrev pub Ends : Cutter → Source → Cutter → Source → Type 0
Ends cutter source new_cutter new =
    Keeps source new_cutter new × (rows_left cutter source ≡ []) × (rows_left new_cutter new ≡ [])
    × (rows_cut new_cutter new ≡ rows_cut cutter source)

-- why the next rows may be refused: memory, or more rows than an answer has
abbrev pub Fails : Cutter → Source → Fault → Type 0
Fails cutter source fault = (fault ≡ OutOfMemory)
    ⊎ ((fault ≡ ResultTooLarge)
    × (most_answer_rows < rows_cut cutter source + length (rows_left cutter source)))

-- the next row stands in the batch that is being cut
pub record HasNext (cutter : Cutter) (source : Source) (new_cutter : Cutter)
    (new : Source) : Type 0 where
  pub keeps : Keeps source new_cutter new
  pub rows : rows_left new_cutter new ≡ rows_left cutter source
  pub same : rows_cut new_cutter new ≡ rows_cut cutter source
  pub more : new_cutter.at < new_cutter.batch.rows

-- none is given of the rows that were looked at
pub record Waits (cutter : Cutter) (source : Source) (new_cutter : Cutter)
    (new : Source) : Type 0 where
  pub keeps : Keeps source new_cutter new
  pub rows : rows_left new_cutter new ≡ rows_left cutter source
  pub same : rows_cut new_cutter new ≡ rows_cut cutter source

-- a turn to the next batch where the last one was given whole: it is there, or not yet, or none is
-- left
abbrev pub Refills : Patience → Cutter → Source → Result (Turn (Unit {0})) Fault → Cutter →
    Source → Type 0
Refills patience cutter source (Ok (Given _)) new_cutter new = HasNext cutter source new_cutter new
Refills patience cutter source (Ok Working) new_cutter new =
    Waits cutter source new_cutter new × LooksOn patience (unseen_behind source) (unseen_behind new)
Refills patience cutter source (Ok End) new_cutter new = Ends cutter source new_cutter new
Refills patience cutter source (Err fault) new_cutter new = Fails cutter source fault

-- a parcel says the next rows, one or more, and no more than a message has
pub record SaysNext (cutter : Cutter) (source : Source) (parcel : Parcel) (new_cutter : Cutter)
    (new : Source) : Type 0 where
  pub given : List Row
  pub said : SaysRows parcel (schema_behind source) given
  pub rows : given ++ rows_left new_cutter new ≡ rows_left cutter source
  pub counted : rows_cut new_cutter new ≡ rows_cut cutter source + length given
  pub some : 0 < length given
  pub few : length given ≤ most_message_rows
  pub fits : FitMessages parcel
  pub keeps : Keeps source new_cutter new

-- a turn to the parcel of the next rows
abbrev pub GivesRows : Patience → Cutter → Source → Result (Turn Parcel) Fault → Cutter →
    Source → Type 0
GivesRows patience cutter source (Ok (Given parcel)) new_cutter new =
    SaysNext cutter source parcel new_cutter new
GivesRows patience cutter source (Ok Working) new_cutter new =
    Waits cutter source new_cutter new × LooksOn patience (unseen_behind source) (unseen_behind new)
GivesRows patience cutter source (Ok End) new_cutter new = Ends cutter source new_cutter new
GivesRows patience cutter source (Err fault) new_cutter new = Fails cutter source fault
