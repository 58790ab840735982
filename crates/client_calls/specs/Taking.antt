-- The answer of a fetch while it is taken, payload by payload.
use Rattle.std.specs.Prelude.{◌≡◌, ◌⊎◌, ℕ, List, [], ◌∷◌, ◌++◌, map, Option, Some, None, Result, Ok}
use Rattle.std.specs.Prelude.{Err}
use Rattle.scan_base.specs.declared.fault.Fault.TheVariants.{BadBatch}
use Rattle.arrays.specs.Batch.{BatchAt, rows_of}
use Rattle.grpc_frame.specs.Ends.{Advances, Tape}
use Rattle.grpc_frame.specs.declared.record.Record.TheVariants.{Message}
use Rattle.grpc_frame.specs.Records.{Received, with_more}
use Rattle.ipc_batch.specs.State.{Known, State}
use Rattle.flight_info.specs.Payloads.{Payload}
use Rattle.flight_client.specs.Stream.{StreamAt, Came, schema_said}
use Rattle.client_calls.specs.declared.call.Method.TheVariants.{DoGet}
use Rattle.client_calls.specs.declared.failure.Failure.{Failure}
use Rattle.client_calls.specs.declared.failure.Failure.TheVariants.{Found}
use Rattle.client_calls.specs.Answers.{Fronts, Quiet}
use Rattle.client_calls.specs.StreamAnswers.{AnswersStream}
use Rattle.client_calls.specs.Outcome.{Calls, IsWritten, Line}

-- a fetch whose answer is being taken: its connection, what the payloads so far leave after, and
-- how much can come yet
pub record FetchAt : Type 0 where
  pub line : Line
  pub state : State
  pub work : ℕ

-- these messages were taken of what came: they stand in front of it, and the rest is left
pub record Taken (a b : Tape) (old new : Received) (messages : List Payload) : Type 0 where
  pub came : List ℕ
  pub consumed : Advances a b came
  pub fronts : Fronts (map Message messages) (with_more old came) new

-- a fetch was asked, and these payloads of its answer were taken
pub record IsTaken (ticket : Payload) (payloads : List Payload) (old new : Line) : Type 0 where
  pub written : IsWritten DoGet (ticket ∷ []) old.outgoing new.outgoing
  pub left : Received
  pub was : old.incoming.left ≡ Ok left
  pub at : Received
  pub is : new.incoming.left ≡ Ok at
  pub taken : Taken old.incoming.input new.incoming.input left at payloads
  pub quiet : Quiet old.incoming new.incoming

-- a stream is being fetched: the payloads that were taken of its answer came to it
abbrev pub IsFetchReader : Payload → StreamAt → Line → Line → Type 0
IsFetchReader ticket stream old new =
    (payloads : List Payload) × Came payloads stream × IsTaken ticket payloads old new

-- what a whole fetch gives: the stream, or a failure
abbrev pub FetchGives : Payload → Result StreamAt Failure → Line → Line → Type 0
FetchGives ticket result old new = Calls DoGet (ticket ∷ []) AnswersStream result old new

-- a stream whose answer came to its end
abbrev pub ended : StreamAt → StreamAt
ended stream = record stream { end = Some (Ok tt) }

-- a stream as it is left after one more batch, or after no batch
abbrev pub with_batch : StreamAt → State → Option BatchAt → StreamAt
with_batch stream state None = record stream { state = state }
with_batch stream state (Some batch) =
    record stream { state = state; rows = stream.rows ++ rows_of batch }

-- a schema that came is kept
abbrev pub KeepsSchema : State → State → Type 0
KeepsSchema None new = Unit {0}
KeepsSchema (Some known) new = (after : Known) × (new ≡ Some after) × (after.schema ≡ known.schema)

-- What comes next of a stream that is being fetched: a batch; or its end; or the fetch failed.
abbrev pub TakesNext : Payload → StreamAt → Line → Result (Option BatchAt) Failure → State →
    Line → Type 0
TakesNext ticket stream old (Ok (Some batch)) state new =
    IsFetchReader ticket (with_batch stream state (Some batch)) old new
TakesNext ticket stream old (Ok None) state new =
    FetchGives ticket (Ok (ended (with_batch stream state None))) old new
TakesNext ticket stream old (Err failure) state new = FetchGives ticket (Err failure) old new

-- the first payload of a stream came: its schema, and no row
pub record IsBegun (ticket : Payload) (state : State) (old new : Line) : Type 0 where
  pub stream : StreamAt
  pub state_is : stream.state ≡ state
  pub known : Known
  pub has_schema : state ≡ Some known
  pub no_rows : stream.rows ≡ []
  pub fetching : IsFetchReader ticket stream old new

-- a stream ended without a schema (F8)
pub record HasNoSchema (ticket : Payload) (failure : Failure) (old new : Line) : Type 0 where
  pub stream : StreamAt
  pub none : schema_said stream ≡ Err BadBatch
  pub whole : FetchGives ticket (Ok stream) old new
  pub failure_is : failure ≡ Found BadBatch

-- a fetch was begun, seen by `view`; or it failed, or its stream ended without a schema
abbrev pub BeginsFetch : {A : Type 0} → (A → FetchAt) → Payload → Result A Failure → Line → Type 0
BeginsFetch view ticket (Ok fetching) old =
    IsBegun ticket (view fetching).state old (view fetching).line
BeginsFetch view ticket (Err failure) old =
    (new : Line) × (FetchGives ticket (Err failure) old new ⊎ HasNoSchema ticket failure old new)
