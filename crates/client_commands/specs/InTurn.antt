-- Rows that are written as they come, over several connections: the run of one after that of
-- another.
use Rattle.std.specs.Prelude.{◌≡◌, ◌⊎◌, ℕ, ◌+◌, List, [], ◌∷◌, ◌++◌, All, map, length, Result, Ok}
use Rattle.std.specs.Prelude.{Err}
use Rattle.std.specs.List.{flat_map}
use Rattle.std.specs.Io.KnownBytes.{Appends}
use Rattle.table_versions.specs.Table.{Table}
use Rattle.flight_proto.specs.FlightInfo.{EndpointSaid}
use Rattle.flight_proto.specs.InfoCommand.{InfoCommand}
use Rattle.flight_client.specs.Join.{joined}
use Rattle.flight_client.specs.Stream.{StreamAt}
use Rattle.command_line.specs.declared.request.Format.{Format}
use Rattle.client_calls.specs.declared.failure.Failure.{Failure}
use Rattle.client_calls.specs.Outcome.{Line}
use Rattle.command_ends.specs.Network.{Ends}
use Rattle.command_ends.specs.Printing.{Said}
use Rattle.client_commands.specs.Formats.{SaysAll}
use Rattle.client_commands.specs.Lines.{opened_line}
use Rattle.client_commands.specs.ParallelFetch.{EachGives, FetchesBy, Giving, IsAsked, IsEvenPart}
use Rattle.client_commands.specs.ParallelFetch.{IsRun}
use Rattle.client_commands.specs.ParallelFetch.{RefusesTwice, Run, StopsEarly}
use Rattle.client_commands.specs.Streaming.{ComeSome, Stops, WritesBroken}

-- ---- what came

-- Each of these connections fetched its run of these endpoints whole, one run after the other. It
-- has as many endpoints as that of every other of so many connections, or one more; the rest stands
-- after them.
pub record RunsCame (many : ℕ) (lines : List Line) (endpoints rest : List EndpointSaid)
    (streams : List StreamAt) : Type 0 where
  pub runs : List Run
  pub fetched : All IsRun runs
  pub over : map (λ (run : Run). run.old) runs ≡ lines
  pub all : flat_map (λ (run : Run). run.endpoints) runs ++ rest ≡ endpoints
  pub even : All (λ (run : Run). IsEvenPart (length endpoints) many (length run.endpoints)) runs
  pub in_order : flat_map (λ (run : Run). run.streams) runs ≡ streams

-- The runs of all but the last of these connections came whole. Of the run of the last one some
-- streams came, and no more were written.
pub record StopsAmong (format : Format) (many : ℕ) (lines : List Line)
    (endpoints : List EndpointSaid) (failure : Failure) (out out' : Said) : Type 0 where
  pub before : List Line
  pub line : Line
  pub over : before ++ line ∷ [] ≡ lines
  pub part : List EndpointSaid
  pub rest : List EndpointSaid
  pub whole : List StreamAt
  pub runs : RunsCame many before endpoints (part ++ rest) whole
  pub even : IsEvenPart (length endpoints) many (length part)
  pub more : List StreamAt
  pub some : Line
  pub came : ComeSome part more line some
  pub last : Line
  pub why : Stops format part (whole ++ more) failure line some last out out'

-- ---- over the connections of handles

-- the first connection and those of the handles fetched streams that join, and their rows were
-- written whole
pub record IsWrittenWhole {N : Type 0} (Gives : Giving N) (format : Format) (first : Line)
    (handles : List N) (endpoints : List EndpointSaid) (out out' : Said) : Type 0 where
  pub streams : List StreamAt
  pub over : FetchesBy Gives first handles endpoints streams
  pub table : Table
  pub rows_are : joined streams ≡ Ok table
  pub bytes : List ℕ
  pub whole : SaysAll format table.schema table.rows bytes
  pub wrote : Appends out.bytes out'.bytes bytes
  pub quiet : out'.failures ≡ out.failures

-- some handles gave a connection, and it stopped over the last one of the first one and these
pub record StopsInTurn {N : Type 0} (Gives : Giving N) (format : Format) (first : Line)
    (handles : List N) (endpoints : List EndpointSaid) (failure : Failure)
    (out out' : Said) : Type 0 where
  pub before : List N
  pub behind : List N
  pub some : before ++ behind ≡ handles
  pub made : List Ends
  pub given : EachGives Gives before made
  pub stops : StopsAmong format (length handles + 1)
      (first ∷ map opened_line made) endpoints failure out out'

-- the runs of all connections before that of this handle came, and it gave none: so what is written
-- breaks off
pub record BreaksUnconnected {N : Type 0} (Gives : Giving N) (format : Format) (first : Line)
    (handles : List N) (endpoints : List EndpointSaid) (out out' : Said) : Type 0 where
  pub before : List N
  pub handle : N
  pub behind : List N
  pub some : before ++ handle ∷ behind ≡ handles
  pub made : List Ends
  pub given : EachGives Gives before made
  pub rest : List EndpointSaid
  pub streams : List StreamAt
  pub runs : RunsCame (length handles + 1) (first ∷ map opened_line made) endpoints rest streams
  pub refused : RefusesTwice Gives handle
  pub wrote : WritesBroken format streams out out'

-- ---- all

-- where the rows are was asked over the first connection, and a handle was made for each further
-- one; and so much came of these
pub record AsksFirst {N : Type 0} (Shares : N → N → N → Type 0) (streams : ℕ) (wanted : InfoCommand)
    (old new : N) (first last : Line) (Comes : List EndpointSaid → List N → Type 0) : Type 0 where
  pub endpoints : List EndpointSaid
  pub handles : List N
  pub asked : IsAsked Shares streams wanted old new first last endpoints handles
  pub comes : Comes endpoints handles

-- the rows that are wanted are written as they come; or a failure ends it, before the rows or among
-- them
abbrev pub Streams : {N : Type 0} → Giving N → (N → N → N → Type 0) → Format → ℕ → InfoCommand → N →
    N →
    Result (Unit {0}) Failure → Line → Line → Said → Said → Type 0
Streams Gives Shares format streams wanted old new (Ok done) first last out out' =
    AsksFirst Shares streams wanted old new first last
    (λ endpoints handles. IsWrittenWhole Gives format last handles endpoints out out')
Streams Gives Shares format streams wanted old new (Err failure) first last out out' =
    (StopsEarly wanted failure first last × (new ≡ old) × (out' ≡ out))
    ⊎ AsksFirst Shares streams wanted old new first last
    (λ endpoints handles. StopsInTurn Gives format last handles endpoints failure out out')

-- a handle gave no connection, when it was asked twice, and what is written breaks off
abbrev pub StreamsUnconnected : {N : Type 0} → Giving N → (N → N → N → Type 0) → Format → ℕ →
    InfoCommand → N → N → Line → Line → Said → Said → Type 0
StreamsUnconnected Gives Shares format streams wanted old new first last out out' =
    AsksFirst Shares streams wanted old new first last
    (λ endpoints handles. BreaksUnconnected Gives format last handles endpoints out out')
