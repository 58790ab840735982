-- Inside: runs are written one after the other, while the next one's first stream is begun.
use Rattle.std.specs.Prelude.{◌≡◌, ◌⊎◌, ◌≤◌, ℕ, ◌+◌, List, [], ◌∷◌, ◌++◌, map, length, Some, None}
use Rattle.std.specs.Prelude.{Result, Ok, Err}
use Rattle.flight_proto.specs.FlightInfo.{EndpointSaid}
use Rattle.flight_info.specs.Payloads.{Payload}
use Rattle.flight_client.specs.Stream.{StreamAt}
use Rattle.client_calls.specs.declared.failure.Failure.{Failure}
use Rattle.client_calls.specs.Outcome.{Line}
use Rattle.client_calls.specs.Taking.{BeginsFetch, FetchAt}
use Rattle.command_line.specs.declared.request.Format.{Format}
use Rattle.command_ends.specs.Network.{Ends}
use Rattle.command_ends.specs.Printing.{Said}
use Rattle.client_commands.specs.declared.next_run.RefusedHandle.{RefusedHandle}
use Rattle.client_commands.specs.declared.fetch_failure.FetchFailure.{FetchFailure}
use Rattle.client_commands.specs.declared.fetch_failure.FetchFailure.TheVariants.{Failed}
use Rattle.client_commands.specs.declared.fetch_failure.FetchFailure.TheVariants.{Unconnected}
use Rattle.client_commands.specs.Fetching.{FetchesEach}
use Rattle.client_commands.specs.InTurn.{RunsCame}
use Rattle.client_commands.specs.Lines.{opened_line}
use Rattle.client_commands.specs.ParallelFetch.{EachGives, GivesAtLast, Giving, IsEvenPart}
use Rattle.client_commands.specs.ParallelFetch.{RefusesTwice}
use Rattle.client_commands.specs.Streaming.{WritesBroken}
use Rattle.client_commands.specs.inside.Runs.{IsOpen, Opens, OpenAt, StopsInRun}

-- ---- the next connection

-- what was made, or why it was not
abbrev pub Settles : {N V : Type 0} → Result (Result V Failure) (RefusedHandle N) →
    Result V FetchFailure → Type 0
Settles (Ok (Ok value)) result = result ≡ Ok value
Settles (Ok (Err failure)) result = result ≡ Err (Failed failure)
Settles (Err refused) result = result ≡ Err (Unconnected refused.error)

-- a handle gave a connection, over which a stream was begun, seen by `view`, or failed; or it gave
-- none
abbrev pub Ahead : {N V : Type 0} → Giving N → (V → FetchAt) → Payload → N →
    Result (Result V Failure) (RefusedHandle N) → Type 0
Ahead {N} Gives view ticket handle (Ok begun) =
    (ends : Ends) × ((new : N) × Gives handle (Some ends) new)
    × BeginsFetch view ticket begun (opened_line ends)
Ahead Gives view ticket handle (Err refused) = Gives handle None refused.handle

-- the same, where a handle that gave none was asked once more
abbrev pub BeginsAtLast : {N V : Type 0} → Giving N → (V → FetchAt) → Payload → N →
    Result V FetchFailure → Type 0
BeginsAtLast Gives view ticket handle (Ok fetching) =
    (ends : Ends) × GivesAtLast Gives handle ends
    × BeginsFetch view ticket (Ok fetching) (opened_line ends)
BeginsAtLast Gives view ticket handle (Err (Failed failure)) =
    (ends : Ends) × GivesAtLast Gives handle ends
    × BeginsFetch view ticket (Err failure) (opened_line ends)
BeginsAtLast Gives view ticket handle (Err (Unconnected error)) = RefusesTwice Gives handle

-- after these streams the stream of an endpoint is begun over a connection of a handle, or not, and
-- what is written breaks off
abbrev pub BeginsNext : {N V : Type 0} → Giving N → Format → (V → OpenAt) → EndpointSaid → N →
    List StreamAt → Said → Result V FetchFailure → Said → Type 0
BeginsNext Gives format view endpoint handle streams begun (Ok passing) out =
    (ends : Ends) × GivesAtLast Gives handle ends
    × Opens format view (Ok passing) streams endpoint (opened_line ends) begun out
BeginsNext Gives format view endpoint handle streams begun (Err (Failed failure)) out =
    (ends : Ends) × GivesAtLast Gives handle ends
    × Opens format view (Err failure) streams endpoint (opened_line ends) begun out
BeginsNext Gives format view endpoint handle streams begun (Err (Unconnected error)) out =
    RefusesTwice Gives handle × WritesBroken format streams begun out

-- ---- a run, and the next one

-- a run came whole over a connection after these streams, and the next one was taken over, or not
pub record WritesThen {N V : Type 0} (Gives : Giving N) (format : Format) (view : V → OpenAt)
    (next : EndpointSaid) (handle : N) (before : List StreamAt) (run : List EndpointSaid)
    (line : Line) (begun : Said) (result : Result V FetchFailure) (out : Said) : Type 0 where
  pub streams : List StreamAt
  pub last : Line
  pub fetched : FetchesEach run streams line last
  pub takes : BeginsNext Gives format view next handle (before ++ streams) begun result out

-- it did, or it stopped within the run
abbrev pub WritesAndBegins : {N V : Type 0} → Giving N → Format → (V → OpenAt) → EndpointSaid → N →
    List StreamAt → List EndpointSaid → Line → Said → Result V FetchFailure → Said → Type 0
WritesAndBegins Gives format view next handle before run line begun result out =
    ((failure : Failure) × (result ≡ Err (Failed failure))
    × StopsInRun format before run failure line begun out)
    ⊎ WritesThen Gives format view next handle before run line begun result out

-- the runs of all but the last of these connections came whole. Over the last one the first stream
-- of its run is open; these are the run's other endpoints, and those of the runs after it
pub record IsTurn (format : Format) (many : ℕ) (lines : List Line)
    (endpoints others behind : List EndpointSaid)
    (begun : Said) (now : OpenAt) (out : Said) : Type 0 where
  pub before : List Line
  pub line : Line
  pub over : before ++ line ∷ [] ≡ lines
  pub endpoint : EndpointSaid
  pub streams : List StreamAt
  pub runs : RunsCame many before endpoints ((endpoint ∷ others) ++ behind) streams
  pub even : IsEvenPart (length endpoints) many (length (endpoint ∷ others))
  pub opened : IsOpen format streams endpoint.ticket line begun now out

-- of a whole of so many parts so much is left for the others: their even parts are even parts of
-- the whole, and there is one for each
pub record IsLeft (whole many rest others : ℕ) : Type 0 where
  pub even : (part : ℕ) → IsEvenPart rest others part → IsEvenPart whole many part
  pub enough : others ≤ rest
  pub none : others ≡ 0 → rest ≡ 0

-- the same over the first connection and those of handles, of which these are left
pub record IsTurnBy {N : Type 0} (Gives : Giving N) (format : Format) (first : Line)
    (handles left : List N) (endpoints others behind : List EndpointSaid)
    (begun : Said) (now : OpenAt) (out : Said) : Type 0 where
  pub done : List N
  pub all : done ++ left ≡ handles
  pub made : List Ends
  pub given : EachGives Gives done made
  pub turn : IsTurn format (length handles + 1)
      (first ∷ map opened_line made) endpoints others behind begun now out
  pub remains : IsLeft (length endpoints) (length handles + 1) (length behind) (length left)
