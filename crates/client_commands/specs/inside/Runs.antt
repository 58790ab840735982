-- Inside: streams that are written as they come, one after the other.
use Rattle.std.specs.Prelude.{◌≡◌, true, List, [], ◌∷◌, ◌++◌, Result, Ok, Err}
use Rattle.scan_base.specs.declared.fault.Fault.TheVariants.{SchemaMismatch}
use Rattle.arrow_types.specs.declared.schema.Schema.{Schema}
use Rattle.table_versions.specs.Table.{same_fields}
use Rattle.flight_proto.specs.FlightInfo.{EndpointSaid}
use Rattle.flight_info.specs.Payloads.{Payload}
use Rattle.flight_client.specs.Join.{joined}
use Rattle.flight_client.specs.Stream.{StreamAt}
use Rattle.command_line.specs.declared.request.Format.{Format}
use Rattle.client_calls.specs.declared.failure.Failure.{Failure}
use Rattle.client_calls.specs.declared.failure.Failure.TheVariants.{Found}
use Rattle.client_calls.specs.Outcome.{Line}
use Rattle.client_calls.specs.Taking.{FetchAt, IsBegun}
use Rattle.command_ends.specs.Printing.{Said}
use Rattle.client_commands.specs.Fetching.{FetchesEach}
use Rattle.client_commands.specs.Streaming.{ComeSome, SaysFirst, Stops, rows_held}
use Rattle.client_commands.specs.inside.OneStream.{FitsSchema, HasOther}
use Rattle.client_commands.specs.inside.Writers.{Breaks, HasTakenRows, WriterAt}

-- ---- a stream after others

-- a stream that is begun, and who writes its rows
pub record OpenAt : Type 0 where
  pub fetch : FetchAt
  pub writer : WriterAt

-- a connection whose streams were written, and who writes
pub record HandoverAt : Type 0 where
  pub line : Line
  pub writer : WriterAt

-- these streams join, and their rows were sent
pub record AreSent (format : Format) (streams : List StreamAt) (begun : Said) (writer : WriterAt)
    (out : Said) : Type 0 where
  pub schema : Schema
  pub says : SaysFirst streams schema
  pub join : joined streams ≡ Ok (record { schema = schema; rows = rows_held streams })
  pub so : HasTakenRows format schema (rows_held streams) begun.bytes out.bytes writer
  pub quiet : out.failures ≡ begun.failures

-- a stream with a schema of its own is the first one, and that is what is written; or it has the
-- columns of what these streams join to
abbrev pub Follows : List StreamAt → Schema → Schema → Type 0
Follows [] schema own = own ≡ schema
Follows streams schema own =
    SaysFirst streams schema
    × (joined streams ≡ Ok (record { schema = schema; rows = rows_held streams }))
    × (same_fields schema.fields own.fields ≡ true)

-- after these streams one is begun over a connection, and may be written; the rows before it were
-- sent, and none of its own
pub record IsOpen (format : Format) (before : List StreamAt) (ticket : Payload) (line : Line)
    (begun : Said) (now : OpenAt) (out : Said) : Type 0 where
  pub begins : IsBegun ticket (now.fetch).state line (now.fetch).line
  pub schema : Schema
  pub follows : Follows before schema (begins.known).schema
  pub so : HasTakenRows format schema (rows_held before) begun.bytes out.bytes now.writer
  pub quiet : out.failures ≡ begun.failures

-- after these streams those of these endpoints came whole over a connection; all join, and their
-- rows were sent
pub record HaveCome (format : Format) (before : List StreamAt) (endpoints : List EndpointSaid)
    (line : Line) (begun : Said) (now : HandoverAt) (out : Said) : Type 0 where
  pub streams : List StreamAt
  pub fetched : FetchesEach endpoints streams line now.line
  pub sent : AreSent format (before ++ streams) begun now.writer out

-- it stopped after these streams, among those of these endpoints over a connection
pub record StopsInRun (format : Format) (before : List StreamAt) (endpoints : List EndpointSaid)
    (failure : Failure) (line : Line) (begun out : Said) : Type 0 where
  pub more : List StreamAt
  pub some : Line
  pub came : ComeSome endpoints more line some
  pub last : Line
  pub why : Stops format endpoints (before ++ more) failure line some last begun out

-- a stream that is begun has the columns that are written; or it has others (F11), and what is
-- written breaks off
abbrev pub ChecksColumns : {A : Type 0} → Format → (A → OpenAt) → Result A Failure → FetchAt →
    WriterAt → Said → Said → Type 0
ChecksColumns format view (Ok passing) fetch writer out out' =
    (view passing ≡ record { fetch = fetch; writer = writer })
    × FitsSchema fetch.state writer.schema × (out' ≡ out)
ChecksColumns format view (Err failure) fetch writer out out' = (failure ≡ Found SchemaMismatch)
    × HasOther fetch.state writer.schema × Breaks format writer out out'

-- the stream of one more endpoint is begun after these, or it stopped there, whatever endpoints
-- come after that
abbrev pub Opens : {A : Type 0} → Format → (A → OpenAt) → Result A Failure → List StreamAt →
    EndpointSaid → Line → Said → Said → Type 0
Opens format view (Ok passing) before endpoint line begun out =
    IsOpen format before endpoint.ticket line begun (view passing) out
Opens format view (Err failure) before endpoint line begun out = (behind : List EndpointSaid) →
    StopsInRun format before (endpoint ∷ behind) failure line begun out

-- after these streams, and those of the first endpoints, the stream of one more was written; or
-- it stopped there
abbrev pub WritesNext : {A : Type 0} → Format → (A → HandoverAt) → Result A Failure →
    List StreamAt → List EndpointSaid → EndpointSaid → Line → Said → Said → Type 0
WritesNext format view (Ok passed) before front endpoint line begun out =
    HaveCome format before (front ++ endpoint ∷ []) line begun (view passed) out
WritesNext format view (Err failure) before front endpoint line begun out =
    (behind : List EndpointSaid) →
    StopsInRun format before (front ++ endpoint ∷ behind) failure line begun out

-- ---- a run

-- after these streams those of a whole run were written, and its connection is closed; or it
-- stopped among them
abbrev pub RunComes : {A : Type 0} → Format → (A → WriterAt) → Result A Failure → List StreamAt →
    List EndpointSaid → Line → Said → Said → Type 0
RunComes format view (Ok writer) before run line begun out = (last : Line)
    × HaveCome format before run line begun (record { line = last; writer = view writer }) out
RunComes format view (Err failure) before run line begun out =
    StopsInRun format before run failure line begun out

-- whatever came before a stream that is open, it is written, and those of these endpoints after
-- it
abbrev pub WritesRun : {A : Type 0} → Format → (A → WriterAt) → Result A Failure → OpenAt →
    List EndpointSaid → Said → Said → Type 0
WritesRun format view result passing others out out' =
    (before : List StreamAt) (endpoint : EndpointSaid) (line : Line) (begun : Said)
    → IsOpen format before endpoint.ticket line begun passing out
    → RunComes format view result before (endpoint ∷ others) line begun out'
