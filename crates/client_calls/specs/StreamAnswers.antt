-- What comes for a call that is answered by a stream.
use Rattle.std.specs.Prelude.{◌≡◌, ◌≢◌, ◌⊎◌, ℕ, ◌+◌, List, [], ◌∷◌, ◌++◌, map, Some, Result}
use Rattle.std.specs.Prelude.{Ok, Err}
use Rattle.scan_base.specs.declared.fault.Fault.{Fault}
use Rattle.scan_base.specs.declared.fault.Fault.TheVariants.{OutOfMemory}
use Rattle.scan_base.specs.Reading.{RefusesFirst}
use Rattle.grpc_frame.specs.declared.record.Record.TheVariants.{Message}
use Rattle.grpc_frame.specs.Records.{Received, Breaks}
use Rattle.grpc_frame.specs.Arrivals.{IsSound}
use Rattle.flight_info.specs.Payloads.{Payload}
use Rattle.flight_client.specs.Stream.{StreamAt, after_payload, glance_of, Came}
use Rattle.client_calls.specs.declared.failure.Failure.{Failure}
use Rattle.client_calls.specs.declared.failure.Failure.TheVariants.{Answered, Found}
use Rattle.client_calls.specs.Answers.{Fronts, stopped_at, Incoming, Quiet, IsAnswer, StopsBehind}
use Rattle.client_calls.specs.Answers.{IsAnswered}

-- the answer is these payloads and status 0, and the stream holds what they say
pub record IsStream (stream : StreamAt) (old new : Incoming) (all : Received) : Type 0 where
  pub payloads : List Payload
  pub text : List ℕ
  pub is : IsAnswer payloads 0 text old new all
  pub came : Came payloads stream
  pub ended : stream.end ≡ Some (Ok tt)

-- the answer did not come to its Status, after payloads that came to a stream
abbrev pub StopsStream : Fault → Incoming → Incoming → Received → Type 0
StopsStream fault old new all =
    (payloads : List Payload) × (stream : StreamAt) × Came payloads stream
    × StopsBehind payloads fault old new all

-- what is answered for a fault that was met here: for want of memory the fault of a faulty record,
-- if one stands here
abbrev pub Stands : Received → Fault → Fault → Type 0
Stands at OutOfMemory fault = Breaks at fault ⊎ ((fault ≡ OutOfMemory) × IsSound at)
Stands at found fault = fault ≡ found

-- the last of the payloads in front is refused, for want of memory only if a glance at it refuses
-- nothing: this fault is answered
pub record IsRefused (fault : Fault) (old new : Incoming) (all : Received) : Type 0 where
  pub payloads : List Payload
  pub last : Payload
  pub stream : StreamAt
  pub came : Came payloads stream
  pub found : Fault
  pub first : RefusesFirst {X = Unit {0}} (Err found) (glance_of stream last)
  pub refused : found ≢ OutOfMemory → after_payload stream last ≡ Err found
  pub at : Received
  pub instead : Stands at found fault
  pub fronts : Fronts (map Message (payloads ++ last ∷ [])) all at
  pub stopped : new.left ≡ stopped_at fault at
  pub quiet : Quiet old new

-- the stream of an answer; or the server's fault; or one of this end: the answer did not end, or a
-- payload is refused
abbrev pub AnswersStream : Result StreamAt Failure → Incoming → Incoming → Received → Type 0
AnswersStream (Ok stream) old new all = IsStream stream old new all
AnswersStream (Err (Answered fault)) old new all = IsAnswered fault old new all
AnswersStream (Err (Found fault)) old new all =
    StopsStream fault old new all ⊎ IsRefused fault old new all
