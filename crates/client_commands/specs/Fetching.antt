-- How rows are fetched: over one connection, one call after another.
use Rattle.std.specs.Prelude.{◌≡◌, ◌≢◌, ◌⊎◌, List, [], ◌∷◌, ◌++◌, Result, Ok, Err}
use Rattle.scan_base.specs.declared.fault.Fault.{Fault}
use Rattle.scan_base.specs.declared.fault.Fault.TheVariants.{OutOfMemory}
use Rattle.flight_proto.specs.FlightInfo.{EndpointSaid}
use Rattle.flight_proto.specs.InfoCommand.{InfoCommand, wanted_bytes}
use Rattle.flight_client.specs.Join.{joined}
use Rattle.flight_client.specs.Stream.{StreamAt}
use Rattle.table_versions.specs.Table.{Table}
use Rattle.client_calls.specs.declared.call.Method.TheVariants.{GetFlightInfo, DoGet}
use Rattle.client_calls.specs.declared.failure.Failure.{Failure}
use Rattle.client_calls.specs.declared.failure.Failure.TheVariants.{Found}
use Rattle.client_calls.specs.Answers.{AnswersOne}
use Rattle.client_calls.specs.StreamAnswers.{AnswersStream}
use Rattle.client_calls.specs.Commands.{ReadsEndpoints}
use Rattle.client_calls.specs.Outcome.{Calls, Line}

-- where rows are fetched is asked
abbrev pub AsksPlaces : InfoCommand → Result (List EndpointSaid) Failure → Line → Line → Type 0
AsksPlaces wanted result old new = Calls GetFlightInfo (wanted_bytes wanted ∷ [])
    (AnswersOne (ReadsEndpoints (λ (endpoints : List EndpointSaid). endpoints))) result old new

-- a stream is fetched
abbrev pub FetchesOne : EndpointSaid → Result StreamAt Failure → Line → Line → Type 0
FetchesOne endpoint result old new = Calls DoGet (endpoint.ticket ∷ []) AnswersStream result old new

-- the streams of endpoints are fetched, in their order
abbrev pub FetchesEach : List EndpointSaid → List StreamAt → Line → Line → Type 0
FetchesEach [] [] old new = new ≡ old
FetchesEach (endpoint ∷ endpoints) (stream ∷ streams) old new =
    (middle : Line) × FetchesOne endpoint (Ok stream) old middle
    × FetchesEach endpoints streams middle new
FetchesEach _ _ old new = ⊥

-- the first of these endpoints gave this failure, or memory was refused
abbrev pub FailsAt : List EndpointSaid → Failure → Line → Line → Type 0
FailsAt [] failure old new = (failure ≡ Found OutOfMemory) × (new ≡ old)
FailsAt (endpoint ∷ endpoints) failure old new =
    FetchesOne endpoint (Err failure) old new ⊎ ((failure ≡ Found OutOfMemory) × (new ≡ old))

-- The streams of the first endpoints were fetched; and then the next one gave this failure, or
-- memory was refused.
pub record FetchStops (endpoints : List EndpointSaid) (failure : Failure)
    (old new : Line) : Type 0 where
  pub front : List EndpointSaid
  pub rest : List EndpointSaid
  pub splits : endpoints ≡ front ++ rest
  pub streams : List StreamAt
  pub middle : Line
  pub fetched : FetchesEach front streams old middle
  pub why : FailsAt rest failure middle new

-- all streams were fetched, and they do not join, or memory for their rows is refused
pub record NotJoined (endpoints : List EndpointSaid) (failure : Failure)
    (old new : Line) : Type 0 where
  pub streams : List StreamAt
  pub fetched : FetchesEach endpoints streams old new
  pub fault : Fault
  pub failure_is : failure ≡ Found fault
  pub refused : fault ≢ OutOfMemory → joined streams ≡ Err fault

-- ---- all

-- where rows are fetched was asked, each stream was fetched, and the rows are those of all streams
-- joined
pub record IsFetched (wanted : InfoCommand) (rows : Table) (old new : Line) : Type 0 where
  pub endpoints : List EndpointSaid
  pub middle : Line
  pub asked : AsksPlaces wanted (Ok endpoints) old middle
  pub streams : List StreamAt
  pub fetched : FetchesEach endpoints streams middle new
  pub rows_are : joined streams ≡ Ok rows

-- it was asked, and the rows were not fetched
pub record IsNotFetched (wanted : InfoCommand) (failure : Failure) (old new : Line) : Type 0 where
  pub endpoints : List EndpointSaid
  pub middle : Line
  pub asked : AsksPlaces wanted (Ok endpoints) old middle
  pub why : FetchStops endpoints failure middle new ⊎ NotJoined endpoints failure middle new

-- the rows that are wanted, or the first failure
abbrev pub Fetches : InfoCommand → Result Table Failure → Line → Line → Type 0
Fetches wanted (Ok rows) old new = IsFetched wanted rows old new
Fetches wanted (Err failure) old new =
    AsksPlaces wanted (Err failure) old new ⊎ IsNotFetched wanted failure old new
