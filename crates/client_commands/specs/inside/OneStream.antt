-- Inside: a stream that is written as it comes.
use Rattle.std.specs.Prelude.{◌≡◌, ◌⊎◌, ℕ, ◌+◌, true, false, List, ◌++◌, Option, Some, Result, Ok}
use Rattle.std.specs.Prelude.{Err}
use Rattle.scan_base.specs.declared.fault.Fault.{Fault}
use Rattle.scan_base.specs.declared.fault.Fault.TheVariants.{LimitReached, OutOfMemory, Transport}
use Rattle.arrow_types.specs.declared.schema.Schema.{Schema}
use Rattle.ipc_batch.specs.State.{Known, State}
use Rattle.ipc_batch.specs.SaidRows.{Rows}
use Rattle.table_versions.specs.Table.{same_fields}
use Rattle.flight_client.specs.Stream.{StreamAt}
use Rattle.flight_info.specs.Payloads.{Payload}
use Rattle.command_line.specs.declared.request.Format.{Format}
use Rattle.command_line.specs.declared.request.Format.TheVariants.{Arrow}
use Rattle.client_calls.specs.declared.failure.Failure.{Failure}
use Rattle.client_calls.specs.declared.failure.Failure.TheVariants.{Found}
use Rattle.client_calls.specs.Outcome.{Line}
use Rattle.client_calls.specs.Taking.{FetchAt, FetchGives, IsFetchReader}
use Rattle.command_ends.specs.Printing.{Said}
use Rattle.client_commands.specs.Formats.{BreaksRows, WritesFront}
use Rattle.client_commands.specs.Streaming.{HasLongRow, SaysSchema}
use Rattle.client_commands.specs.inside.Writers.{Breaks, HasTakenRows, WriterAt}

-- ---- one stream

-- A stream of this schema is being fetched, which has the columns of the schema that is written;
-- and the rows before it and its own so far were sent.
pub record IsUnderWay (format : Format) (ticket : Payload) (schema own : Schema) (rows : Rows)
    (start : Option (List ℕ)) (begun : Line) (stream : StreamAt)
    (now : FetchAt) (out : Said) (writer : WriterAt) : Type 0 where
  pub fetching : IsFetchReader ticket stream begun now.line
  pub state : stream.state ≡ now.state
  pub says : SaysSchema stream own
  pub same : same_fields schema.fields own.fields ≡ true
  pub so : HasTakenRows format schema (rows ++ stream.rows) start out.bytes writer

-- what comes of a stream has the columns of the schema that is written
abbrev pub FitsSchema : State → Schema → Type 0
FitsSchema state written =
    (known : Known) × (state ≡ Some known) × (same_fields written.fields known.schema.fields ≡ true)

-- or it has other columns
abbrev pub HasOther : State → Schema → Type 0
HasOther state written = (known : Known) × (state ≡ Some known)
    × (same_fields written.fields known.schema.fields ≡ false)

-- why what came of a stream is not written
abbrev pub WhyUnwritten : Format → Schema → StreamAt → Fault → Type 0
WhyUnwritten format schema stream Transport = Unit {0}
WhyUnwritten format schema stream OutOfMemory = Unit {0}
WhyUnwritten format schema stream LimitReached =
    (format ≡ Arrow) × HasLongRow schema stream.rows
WhyUnwritten format schema stream _ = ⊥

-- it came whole
pub record HasCome (format : Format) (ticket : Payload) (schema own : Schema) (rows : Rows)
    (start : Option (List ℕ)) (begun : Line)
    (now : FetchAt) (out out' : Said) (writer : WriterAt) : Type 0 where
  pub stream : StreamAt
  pub fetched : FetchGives ticket (Ok stream) begun now.line
  pub ended : stream.end ≡ Some (Ok tt)
  pub state : stream.state ≡ now.state
  pub says : SaysSchema stream own
  pub so : HasTakenRows format schema (rows ++ stream.rows) start out'.bytes writer
  pub quiet : out'.failures ≡ out.failures

-- what was written where this end found a fault: a write that failed is counted, and at another one
-- it breaks off
abbrev pub EndsAt : Format → Fault → Schema → Rows → Option (List ℕ) → Option (List ℕ) → ℕ → ℕ →
    Type 0
EndsAt format Transport schema rows old new failed failed' =
    WritesFront format schema rows old new × (failed' ≡ failed + 1)
EndsAt format fault schema rows old new failed failed' =
    BreaksRows format schema rows old new failed failed'

-- it stopped after some rows
pub record StopsWithin (format : Format) (ticket : Payload) (schema own : Schema) (rows : Rows)
    (start : Option (List ℕ)) (begun : Line)
    (failure : Failure) (now : Line) (out out' : Said) : Type 0 where
  pub stream : StreamAt
  pub some : Line
  pub fetching : IsFetchReader ticket stream begun some
  pub says : SaysSchema stream own
  pub why : (FetchGives ticket (Err failure) begun now
      × BreaksRows format schema
      (rows ++ stream.rows) start out'.bytes out.failures out'.failures)
      ⊎ ((fault : Fault) × (failure ≡ Found fault) × WhyUnwritten format schema stream fault
      × EndsAt format fault schema
      (rows ++ stream.rows) start out'.bytes out.failures out'.failures × (now ≡ some))

-- a failure breaks off what is written, and else nothing more is written
abbrev pub BreaksAtFailure : {A : Type 0} → Format → Result A Failure → WriterAt → WriterAt → Said →
    Said → Type 0
BreaksAtFailure format (Ok x) old new out out' = (new ≡ old) × (out' ≡ out)
BreaksAtFailure format (Err failure) old new out out' = Breaks format old out out'

abbrev pub WritesBatches : Format → Result (Unit {0}) Failure → Payload → Schema → Schema → Rows →
    Option (List ℕ) → Line → FetchAt → Said → Said → WriterAt → Type 0
WritesBatches format (Ok done) ticket schema own rows start begun now out out' writer =
    HasCome format ticket schema own rows start begun now out out' writer
WritesBatches format (Err failure) ticket schema own rows start begun now out out' writer =
    StopsWithin format ticket schema own rows start begun failure now.line out out'
