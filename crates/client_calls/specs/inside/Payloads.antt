-- Inside: what one payload of a fetch gives, and what a turn of taking does.
use Rattle.std.specs.Prelude.{◌≡◌, ◌≢◌, ◌⊎◌, ℕ, List, Option, Some, None, Result, Ok, Err}
use Rattle.scan_base.specs.declared.fault.Fault.{Fault}
use Rattle.scan_base.specs.declared.fault.Fault.TheVariants.{OutOfMemory}
use Rattle.scan_base.specs.Reading.{RefusesFirst}
use Rattle.arrays.specs.Batch.{BatchAt}
use Rattle.grpc_frame.specs.Ends.{Advances, Tape}
use Rattle.grpc_frame.specs.Records.{Received, with_more}
use Rattle.ipc_batch.specs.State.{State}
use Rattle.flight_info.specs.Payloads.{Payload}
use Rattle.flight_client.specs.Stream.{StreamAt, Came, payload_glance, payload_news}
use Rattle.client_calls.specs.declared.answer.Arrival.TheVariants as arrival
use Rattle.client_calls.specs.declared.failure.Failure.{Failure}
use Rattle.client_calls.specs.declared.failure.Failure.TheVariants.{Answered}
use Rattle.client_calls.specs.declared.fetch_piece.FetchPiece.{FetchPiece}
use Rattle.client_calls.specs.declared.fetch_piece.FetchPiece.TheVariants as took
use Rattle.client_calls.specs.Answers.{Incoming}
use Rattle.client_calls.specs.StreamAnswers.{AnswersStream, Stands}
use Rattle.client_calls.specs.Taking.{Taken, ended, with_batch}
use Rattle.client_calls.specs.inside.Arriving.{ArrivesAs}
use Rattle.client_calls.specs.inside.Parts.{given, incoming_of, left_behind}

-- the batch that a payload says, if it says one
abbrev pub batch_in : FetchPiece → Option BatchAt
batch_in (took.Payload batch) = batch
batch_in took.End = None

-- a payload came and is refused, for want of memory only if a glance at it refuses nothing: this
-- fault is answered
pub record RefusesPayload (state : State) (fault : Fault) (old new : Incoming)
    (all left : Received) : Type 0 where
  pub payload : Payload
  pub arrives : ArrivesAs (Ok (arrival.Message payload)) old new all left
  pub found : Fault
  pub first : RefusesFirst {X = Unit {0}} (Err found) (payload_glance state payload)
  pub refused : found ≢ OutOfMemory → payload_news state payload ≡ Err found
  pub instead : Stands left found fault

-- what comes next of an answer: a payload and what it says, or the status, or neither
abbrev pub TakesAs : Result (Result FetchPiece Failure) Fault → State → State → Incoming →
    Incoming →
    Received → Received → Type 0
TakesAs (Ok (Ok (took.Payload batch))) before after old new all left =
    (payload : Payload) × ArrivesAs (Ok (arrival.Message payload)) old new all left
    × (payload_news before payload ≡ Ok (record { state = after; batch = batch }))
TakesAs (Ok (Ok took.End)) before after old new all left =
    ArrivesAs (Ok (arrival.End (Ok tt))) old new all left × (after ≡ before)
TakesAs (Ok (Err failure)) before after old new all left =
    (fault : Fault) × (failure ≡ Answered fault)
    × ArrivesAs (Ok (arrival.End (Err fault))) old new all left
TakesAs (Err fault) before after old new all left =
    ArrivesAs (Err fault) old new all left ⊎ RefusesPayload before fault old new all left

-- what came since the answer began, after `old`, is an answer that gives this
abbrev pub EndsAs : Result (Result StreamAt Failure) Fault → Tape → Tape → ℕ → ℕ → Received →
    Received → Type 0
EndsAs result a c x z old new =
    (came : List ℕ) × Advances a c came × AnswersStream (given result) (incoming_of a x (Ok old))
    (incoming_of c z (left_behind result new)) (with_more old came)

-- the payloads that were taken came to a stream
abbrev pub HasTaken : StreamAt → Tape → Tape → Received → Received → Type 0
HasTaken stream a b old left =
    (payloads : List Payload) × Taken a b old left payloads × Came payloads stream

-- what is taken next of a stream: the next batch, or its end, or a failure
abbrev pub BatchOrEnd : Result (Result (Option BatchAt) Failure) Fault → StreamAt → State → Tape →
    Tape → ℕ → ℕ → Received → Received → Type 0
BatchOrEnd (Ok (Ok (Some batch))) stream state a c x z old new =
    HasTaken (with_batch stream state (Some batch)) a c old new × (z ≡ x)
BatchOrEnd (Ok (Ok None)) stream state a c x z old new =
    EndsAs (Ok (Ok (ended (with_batch stream state None)))) a c x z old new
BatchOrEnd (Ok (Err failure)) stream state a c x z old new =
    EndsAs (Ok (Err failure)) a c x z old new
BatchOrEnd (Err fault) stream state a c x z old new = EndsAs (Err fault) a c x z old new
