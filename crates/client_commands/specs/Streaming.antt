-- Rows that are written as they come: what came, what was written of it, and why no more was.
use Rattle.std.specs.Prelude.{◌≡◌, ◌⊎◌, ◌+◌, false, List, [], ◌∷◌, ◌++◌, Some, Ok, Err}
use Rattle.std.specs.List.{flat_map}
use Rattle.scan_base.specs.declared.fault.Fault.{Fault}
use Rattle.scan_base.specs.declared.fault.Fault.TheVariants.{BadBatch, LimitReached, OutOfMemory}
use Rattle.scan_base.specs.declared.fault.Fault.TheVariants.{SchemaMismatch, Transport}
use Rattle.arrow_types.specs.declared.schema.Schema.{Schema}
use Rattle.arrays.specs.Batch.{BatchAt, rows_of}
use Rattle.ipc_batch.specs.State.{Known}
use Rattle.ipc_batch.specs.SaidRows.{Rows}
use Rattle.table_versions.specs.Table.{same_fields}
use Rattle.flight_proto.specs.FlightInfo.{EndpointSaid}
use Rattle.flight_client.specs.Stream.{StreamAt, schema_said}
use Rattle.row_stream.specs.Stream.{numbered_schema, HasShortRows}
use Rattle.command_line.specs.declared.request.Format.{Format}
use Rattle.command_line.specs.declared.request.Format.TheVariants.{Arrow}
use Rattle.client_calls.specs.declared.failure.Failure.{Failure}
use Rattle.client_calls.specs.declared.failure.Failure.TheVariants.{Found}
use Rattle.client_calls.specs.Outcome.{Line}
use Rattle.client_calls.specs.Taking.{IsFetchReader}
use Rattle.command_ends.specs.Printing.{Said}
use Rattle.client_commands.specs.Fetching.{FetchesOne, FetchStops}
use Rattle.client_commands.specs.Formats.{BreaksRows, WritesFront}

-- ---- what came

-- the streams of the first endpoints came whole, and of the next one so much
abbrev pub ComeSome : List EndpointSaid → List StreamAt → Line → Line → Type 0
ComeSome endpoints [] old new = new ≡ old
ComeSome [] (stream ∷ streams) old new = ⊥
ComeSome (endpoint ∷ endpoints) (stream ∷ streams) old new =
    ((streams ≡ []) × IsFetchReader endpoint.ticket stream old new)
    ⊎ ((middle : Line) × FetchesOne endpoint (Ok stream) old middle
    × ComeSome endpoints streams middle new)

-- the rows that streams hold, one stream's after another's
abbrev pub rows_held : List StreamAt → Rows
rows_held streams = flat_map (λ (stream : StreamAt). stream.rows) streams

-- this schema came of a stream
abbrev pub SaysSchema : StreamAt → Schema → Type 0
SaysSchema stream schema = (known : Known) × (stream.state ≡ Some known) × (known.schema ≡ schema)

-- it came of the first stream
abbrev pub SaysFirst : List StreamAt → Schema → Type 0
SaysFirst [] schema = ⊥
SaysFirst (stream ∷ streams) schema = SaysSchema stream schema

-- ---- what was written of it

-- the first schema and some of these rows, and there it breaks off
abbrev pub WritesBroken : Format → List StreamAt → Said → Said → Type 0
WritesBroken format streams old new = (schema : Schema) × SaysFirst streams schema
    × BreaksRows format schema (rows_held streams) old.bytes new.bytes old.failures new.failures

-- no write of the rows failed: nothing was written, or it breaks off
abbrev pub WritesSome : Format → List StreamAt → Said → Said → Type 0
WritesSome format streams old new = (new ≡ old) ⊎ WritesBroken format streams old new

-- one failed, which is counted: a beginning was written, which says some of the rows
abbrev pub WritesPart : Format → List StreamAt → Said → Said → Type 0
WritesPart format streams old new = (schema : Schema) × SaysFirst streams schema
    × WritesFront format schema (rows_held streams) old.bytes new.bytes
    × (new.failures ≡ old.failures + 1)

-- what was written where this end found a fault
abbrev pub WritesUpTo : Format → Fault → List StreamAt → Said → Said → Type 0
WritesUpTo format Transport streams old new = WritesPart format streams old new
WritesUpTo format fault streams old new = WritesSome format streams old new

-- ---- why no more was, though no fetch failed

-- the last of these streams ended without a schema
pub record LacksSchema (streams : List StreamAt) : Type 0 where
  pub before : List StreamAt
  pub last : StreamAt
  pub are : streams ≡ before ++ last ∷ []
  pub lacks : schema_said last ≡ Err BadBatch

-- the last one says other columns than the first
pub record SaysOther (streams : List StreamAt) : Type 0 where
  pub schema : Schema
  pub first : SaysFirst streams schema
  pub before : List StreamAt
  pub last : StreamAt
  pub are : streams ≡ before ++ last ∷ []
  pub other : Schema
  pub says : SaysSchema last other
  pub differ : same_fields schema.fields other.fields ≡ false

-- the last batch that came has a row that takes 2 to the 31 bytes or more in an Arrow IPC stream of
-- these columns
pub record HasLongRow (schema : Schema) (rows : Rows) : Type 0 where
  pub before : Rows
  pub batch : BatchAt
  pub are : rows ≡ before ++ rows_of batch
  pub long : ¬ HasShortRows (numbered_schema schema) batch

abbrev pub WhyNoMore : Format → List StreamAt → Fault → Type 0
WhyNoMore format streams BadBatch = LacksSchema streams
WhyNoMore format streams SchemaMismatch = SaysOther streams
WhyNoMore format streams LimitReached = (format ≡ Arrow)
    × ((schema : Schema) × SaysFirst streams schema × HasLongRow schema (rows_held streams))
WhyNoMore format streams OutOfMemory = Unit {0}
WhyNoMore format streams Transport = Unit {0}
WhyNoMore format streams _ = ⊥

-- ---- over a connection

-- The fetch of one of these endpoints failed; or there is a fault of these streams, or of writing.
-- The streams are those that came over this connection, and before them those of others.
abbrev pub Stops : Format → List EndpointSaid → List StreamAt → Failure → Line → Line → Line →
    Said → Said → Type 0
Stops format endpoints streams failure old some new out out' =
    (FetchStops endpoints failure old new × WritesSome format streams out out')
    ⊎ ((fault : Fault) × (failure ≡ Found fault) × WhyNoMore format streams fault
    × WritesUpTo format fault streams out out' × (new ≡ some))
