-- What became of a call, and of the connection on which it was made.
use Rattle.std.specs.Prelude.{◌≡◌, ◌⊎◌, ℕ, ◌+◌, List, Option, Some, None, Result, Ok, Err}
use Rattle.std.specs.Io.KnownBytes.{Appends}
use Rattle.scan_base.specs.declared.fault.Fault.{Fault}
use Rattle.scan_base.specs.declared.fault.Fault.TheVariants.{MessageTooLarge, OutOfMemory}
use Rattle.scan_base.specs.declared.fault.Fault.TheVariants.{Transport}
use Rattle.grpc_frame.specs.Records.{Received, with_more}
use Rattle.grpc_frame.specs.Ends.{Advances, AppendsBeginning}
use Rattle.flight_info.specs.Payloads.{Payload}
use Rattle.client_calls.specs.declared.call.Method.{Method}
use Rattle.client_calls.specs.declared.failure.Failure.{Failure}
use Rattle.client_calls.specs.declared.failure.Failure.TheVariants.{Found}
use Rattle.client_calls.specs.Answers.{Incoming, Stop, stopped_at}
use Rattle.client_calls.specs.Calls.{call_bytes, Fit}

-- the end that is written: what it holds, where that is known, and how many writes failed
pub record Outgoing : Type 0 where
  pub output : Option (List ℕ)
  pub failed : ℕ

-- both ends of a connection
pub record Line : Type 0 where
  pub incoming : Incoming
  pub outgoing : Outgoing

-- what came and is not taken yet; or a call stopped there, by a fault
abbrev pub left_of : Option Fault → Received → Result Received Stop
left_of None left = Ok left
left_of (Some fault) left = stopped_at fault left

-- the same after this fault
abbrev pub stopped_by : Fault → Result Received Stop → Result Received Stop
stopped_by fault (Ok left) = stopped_at fault left
stopped_by fault (Err stop) = Err stop

-- ---- writing

-- a call was written whole, and no write failed
pub record IsWritten (method : Method) (messages : List Payload) (old new : Outgoing) : Type 0 where
  pub fit : Fit messages
  pub wrote : Appends old.output new.output (call_bytes method messages)
  pub quiet : new.failed ≡ old.failed

-- a write failed and was counted, and a beginning of the call is written
pub record WroteBeginning (method : Method) (messages : List Payload)
    (old new : Outgoing) : Type 0 where
  pub fit : Fit messages
  pub wrote : AppendsBeginning old.output new.output (call_bytes method messages)
  pub counted : new.failed ≡ old.failed + 1

-- ---- a call and its answer

-- the call was written, and these bytes came after what was left, which answer it so
pub record IsCalled (method : Method) (messages : List Payload)
    (Answers : Incoming → Incoming → Received → Type 0) (left : Received)
    (old new : Line) : Type 0 where
  pub written : IsWritten method messages old.outgoing new.outgoing
  pub came : List ℕ
  pub consumed : Advances old.incoming.input new.incoming.input came
  pub answers : Answers old.incoming new.incoming (with_more left came)

-- why a call was not written: a write failed, and the connection has stopped; or nothing is done,
-- since a message is too long or memory was refused
abbrev pub WhyNot : Fault → Method → List Payload → Line → Line → Type 0
WhyNot fault method messages old new =
    ((fault ≡ Transport) × WroteBeginning method messages old.outgoing new.outgoing
    × (new.incoming ≡ record old.incoming { left = stopped_by Transport old.incoming.left }))
    ⊎ ((((fault ≡ MessageTooLarge) × ¬ Fit messages) ⊎ (fault ≡ OutOfMemory)) × (new ≡ old))

-- A call of a method with these messages was made, and the result is what its answer says; or it
-- was not written. Where a call before it stopped, the fault of that one is the result, and nothing
-- is done.
abbrev pub CallsAt : {A : Type 0} → Result Received Stop → Method → List Payload →
    (Result A Failure → Incoming → Incoming → Received → Type 0) → Result A Failure → Line →
    Line → Type 0
CallsAt (Ok left) method messages Answers result old new =
    IsCalled method messages (Answers result) left old new
    ⊎ ((fault : Fault) × (result ≡ Err (Found fault)) × WhyNot fault method messages old new)
CallsAt (Err stop) method messages Answers result old new =
    (result ≡ Err (Found stop.fault)) × (new ≡ old)

abbrev pub Calls : {A : Type 0} → Method → List Payload →
    (Result A Failure → Incoming → Incoming → Received → Type 0) → Result A Failure → Line →
    Line → Type 0
Calls method messages Answers result old new =
    CallsAt old.incoming.left method messages Answers result old new
