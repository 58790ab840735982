-- What comes for a call, and for one that is answered by one message.
use Rattle.std.specs.Prelude.{◌≡◌, ◌⊎◌, ℕ, ◌+◌, List, [], ◌∷◌, ◌++◌, map, All, Result}
use Rattle.std.specs.Prelude.{Ok, Err}
use Rattle.std.specs.List.{flat_map}
use Rattle.std.specs.Io.KnownBytes.{IsAtEnd}
use Rattle.scan_base.specs.declared.fault.Fault.{Fault}
use Rattle.scan_base.specs.declared.fault.Fault.TheVariants.{BadProto, OutOfMemory, Transport}
use Rattle.grpc_frame.specs.declared.place.Place.TheVariants.{InAnswer}
use Rattle.grpc_frame.specs.declared.record.Record.{Record}
use Rattle.grpc_frame.specs.declared.record.Record.TheVariants.{Message, Status}
use Rattle.grpc_frame.specs.Records.{spelling, IsRecord, Received, Breaks, IsCut}
use Rattle.grpc_frame.specs.Ends.{Tape}
use Rattle.grpc_frame.specs.Arrivals.{IsSound}
use Rattle.flight_info.specs.Payloads.{Payload}
use Rattle.flight_client.specs.Status.{StatusSays}
use Rattle.client_calls.specs.declared.failure.Failure.{Failure}
use Rattle.client_calls.specs.declared.failure.Failure.TheVariants.{Answered, Found}

-- the records of an answer
abbrev pub answer_records : List Payload → ℕ → List ℕ → List Record
answer_records messages code text = map Message messages ++ Status code text ∷ []

-- the records stand in front, and what is left, which is of an answer, follows them
pub record Fronts (records : List Record) (all left : Received) : Type 0 where
  pub whole : all.bytes ≡ flat_map spelling records ++ left.bytes
  pub fits : All IsRecord records
  pub place : left.place ≡ InAnswer

-- why a call stopped: its fault, and what had come then and was not taken
pub record Stop : Type 0 where
  pub fault : Fault
  pub at : Received

-- nothing more is read after this fault, which was met here
abbrev pub stopped_at : Fault → Received → Result Received Stop
stopped_at fault at = Err (record { fault = fault; at = at })

-- the end that is read: its tape, how many reads failed, and what came and is not taken yet, or why
-- a call stopped
pub record Incoming : Type 0 where
  pub input : Tape
  pub failed : ℕ
  pub left : Result Received Stop

-- no read failed
abbrev pub Quiet : Incoming → Incoming → Type 0
Quiet old new = new.failed ≡ old.failed

-- a read failed and was counted, or the input ended
abbrev pub NoMore : Incoming → Incoming → Type 0
NoMore old new = (new.failed ≡ old.failed + 1) ⊎ (IsAtEnd new.input.left × Quiet old new)

-- what came is the answer of these messages and this status, and what stands after it is left
pub record IsAnswer (messages : List Payload) (code : ℕ) (text : List ℕ) (old new : Incoming)
    (all : Received) : Type 0 where
  pub left : Received
  pub fronts : Fronts (answer_records messages code text) all left
  pub is_left : new.left ≡ Ok left
  pub quiet : Quiet old new

-- why no record is taken from here: no more comes, and it is cut; or it is faulty; or memory was
-- refused, and it is not
abbrev pub Halts : Fault → Received → Incoming → Incoming → Type 0
Halts fault at old new =
    ((fault ≡ Transport) × IsCut at × NoMore old new)
    ⊎ ((Breaks at fault ⊎ ((fault ≡ OutOfMemory) × IsSound at)) × Quiet old new)

-- an answer did not come to its Status: these messages stand in front, and after them the
-- connection has stopped
pub record StopsBehind (messages : List Payload) (fault : Fault) (old new : Incoming)
    (all : Received) : Type 0 where
  pub at : Received
  pub fronts : Fronts (map Message messages) all at
  pub stopped : new.left ≡ stopped_at fault at
  pub halts : Halts fault at old new

-- the server answered this fault
abbrev pub IsAnswered : Fault → Incoming → Incoming → Received → Type 0
IsAnswered fault old new all =
    (messages : List Payload) × (code : ℕ) × (text : List ℕ)
    × IsAnswer messages code text old new all × StatusSays code text (Err fault)

-- ---- an answer of one message

-- status 0 came without a message
abbrev pub IsNone : Incoming → Incoming → Received → Type 0
IsNone old new all = (text : List ℕ) × IsAnswer [] 0 text old new all

-- a second message came: the connection has stopped
abbrev pub IsMore : Incoming → Incoming → Received → Type 0
IsMore old new all =
    (first : Payload) × (second : Payload) × (at : Received)
    × Fronts (Message first ∷ Message second ∷ []) all at × (new.left ≡ stopped_at BadProto at)
    × Quiet old new

-- it did not come to its Status, after one message or none
abbrev pub Stops : Fault → Incoming → Incoming → Received → Type 0
Stops fault old new all =
    StopsBehind [] fault old new all
    ⊎ ((message : Payload) × StopsBehind (message ∷ []) fault old new all)

-- the answer is this one message and status 0
abbrev pub IsOne : Payload → Incoming → Incoming → Received → Type 0
IsOne message old new all = (text : List ℕ) × IsAnswer (message ∷ []) 0 text old new all

-- What reading the one message of an answer gives, by `Reads`; else the server's fault; or one of
-- this end: the answer did not come to its end, is not one message (F4), or its message does not
-- read.
abbrev pub AnswersOne : {A : Type 0} → (Result A Fault → Payload → Type 0) → Result A Failure →
    Incoming → Incoming → Received → Type 0
AnswersOne Reads (Ok x) old new all =
    (message : Payload) × IsOne message old new all × Reads (Ok x) message
AnswersOne Reads (Err (Answered fault)) old new all = IsAnswered fault old new all
AnswersOne Reads (Err (Found fault)) old new all =
    Stops fault old new all
    ⊎ (((fault ≡ BadProto) × (IsNone old new all ⊎ IsMore old new all))
    ⊎ ((message : Payload) × IsOne message old new all × Reads (Err fault) message))
