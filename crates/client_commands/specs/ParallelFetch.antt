-- How rows are fetched over several connections, each with endpoints of its own.
use Rattle.std.specs.Prelude.{◌≡◌, ◌⊎◌, ◌<◌, ◌+◌, ◌*◌, ◌-◌, ℕ, List, ◌∷◌, All, map, min, length}
use Rattle.std.specs.Prelude.{Ok, Err}
use Rattle.std.specs.List.{flat_map}
use Rattle.scan_base.specs.declared.fault.Fault.TheVariants.{OutOfMemory}
use Rattle.flight_proto.specs.FlightInfo.{EndpointSaid}
use Rattle.flight_proto.specs.InfoCommand.{InfoCommand}
use Rattle.flight_client.specs.Stream.{StreamAt}
use Rattle.client_calls.specs.declared.failure.Failure.{Failure}
use Rattle.client_calls.specs.declared.failure.Failure.TheVariants.{Found}
use Rattle.client_calls.specs.Outcome.{Line}
use Rattle.command_ends.specs.Network.{Ends}
use Rattle.client_commands.specs.Fetching.{AsksPlaces, FetchesEach}
pub use Rattle.client_commands.specs.Handles.{EachGives, GivesAtLast, Giving, RefusesTwice}
pub use Rattle.client_commands.specs.Handles.{SharesHandles}
use Rattle.client_commands.specs.Lines.{opened_line}

-- ---- streams

-- what one connection fetches: the streams of these endpoints
pub record Run : Type 0 where
  pub endpoints : List EndpointSaid
  pub streams : List StreamAt
  pub old : Line
  pub new : Line

abbrev pub IsRun : Run → Type 0
IsRun run = FetchesEach run.endpoints run.streams run.old run.new

-- a part of a whole that is cut into so many: the quotient, rounded down or up
abbrev pub IsEvenPart : (whole many part : ℕ) → Type 0
IsEvenPart whole many part = (whole < (part + 1) * many) × (part * many < whole + many)

-- Each connection fetches the endpoints that follow those of the connection before it, as many as
-- every other or one more. These are the streams, in the order of the endpoints.
pub record FetchesOver (lines : List Line) (endpoints : List EndpointSaid)
    (streams : List StreamAt) : Type 0 where
  pub runs : List Run
  pub fetched : All IsRun runs
  pub over : map (λ (run : Run). run.old) runs ≡ lines
  pub all : flat_map (λ (run : Run). run.endpoints) runs ≡ endpoints
  pub even :
      All (λ (run : Run). IsEvenPart (length endpoints) (length lines) (length run.endpoints)) runs
  pub in_order : flat_map (λ (run : Run). run.streams) runs ≡ streams

-- ---- streams over the connections of handles

-- each handle gave a connection, and the first one and these fetched the streams, in this order
pub record FetchesBy {N : Type 0} (Gives : Giving N) (first : Line) (handles : List N)
    (endpoints : List EndpointSaid) (streams : List StreamAt) : Type 0 where
  pub made : List Ends
  pub given : EachGives Gives handles made
  pub over : FetchesOver (first ∷ map opened_line made) endpoints streams

-- ---- all

-- how many connections are asked for after the first one, which fetches too: one for each endpoint,
-- and `streams` in all
abbrev pub most_others : ℕ → List EndpointSaid → ℕ
most_others streams endpoints = min streams (length endpoints) - 1

-- where rows are fetched was asked over the first connection, and a handle was made for each
-- further one
pub record IsAsked {N : Type 0} (Shares : N → N → N → Type 0) (streams : ℕ) (wanted : InfoCommand)
    (old new : N) (first last : Line)
    (endpoints : List EndpointSaid) (handles : List N) : Type 0 where
  pub asked : AsksPlaces wanted (Ok endpoints) first last
  pub many : length handles ≡ most_others streams endpoints
  pub shared : SharesHandles Shares handles old new

-- where rows are fetched was not answered; or it was, and memory for handles was refused
abbrev pub StopsEarly : InfoCommand → Failure → Line → Line → Type 0
StopsEarly wanted failure first last =
    AsksPlaces wanted (Err failure) first last
    ⊎ ((failure ≡ Found OutOfMemory)
    × ((endpoints : List EndpointSaid) × AsksPlaces wanted (Ok endpoints) first last))
