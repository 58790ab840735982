-- Inside: a connection by its parts.
use Rattle.std.specs.Prelude.{◌≡◌, ◌⊎◌, ℕ, ◌+◌, List, Option, Result, Ok, Err}
use Rattle.scan_base.specs.declared.fault.Fault.{Fault}
use Rattle.scan_base.specs.declared.fault.Fault.TheVariants.{MessageTooLarge, OutOfMemory}
use Rattle.scan_base.specs.declared.fault.Fault.TheVariants.{Transport}
use Rattle.grpc_frame.specs.Ends.{Advances, Tape}
use Rattle.grpc_frame.specs.Records.{Received, with_more}
use Rattle.grpc_frame.specs.Sending.{Sent, NotSent}
use Rattle.flight_info.specs.Payloads.{Payload}
use Rattle.client_calls.specs.declared.call.Method.{Method}
use Rattle.client_calls.specs.declared.failure.Failure.{Failure}
use Rattle.client_calls.specs.declared.failure.Failure.TheVariants.{Found}
use Rattle.client_calls.specs.Answers.{Incoming, Stop, stopped_at}
use Rattle.client_calls.specs.Calls.{Fit}
use Rattle.client_calls.specs.Outcome.{Outgoing, Line, IsWritten, WroteBeginning, WhyNot, left_of}
use Rattle.client_calls.specs.Outcome.{stopped_by}

-- the ends by their parts
abbrev pub incoming_of : Tape → ℕ → Result Received Stop → Incoming
incoming_of input failed left = record { input = input; failed = failed; left = left }

abbrev pub outgoing_of : Option (List ℕ) → ℕ → Outgoing
outgoing_of output failed = record { output = output; failed = failed }

-- a connection by its parts
abbrev pub line_of : Tape → ℕ → Option Fault → Received → Outgoing → Line
line_of input failed stopped left outgoing =
    record { incoming = incoming_of input failed (left_of stopped left); outgoing = outgoing }

-- no call stopped
abbrev pub IsOpen : Line → Type 0
IsOpen line = (left : Received) × (line.incoming.left ≡ Ok left)

-- a call stopped by this fault
abbrev pub HasStopped : Fault → Line → Type 0
HasStopped fault line = (at : Received) × (line.incoming.left ≡ stopped_at fault at)

-- ---- writing

-- a call was written; or not, by F22; or nothing of it was, since a message of it is too long (F2)
abbrev pub WritesCall : Result (Unit {0}) Fault → Method → List Payload → Outgoing →
    Outgoing → Type 0
WritesCall (Ok done) method messages old new = IsWritten method messages old new
WritesCall (Err fault) method messages old new =
    ((fault ≡ Transport) × WroteBeginning method messages old new)
    ⊎ ((fault ≡ MessageTooLarge) × (¬ Fit messages) × (new ≡ old))

-- the same on a connection
abbrev pub SendsCall : Result (Unit {0}) Fault → Method → List Payload → Line → Line → Type 0
SendsCall (Ok done) method messages old new =
    IsWritten method messages old.outgoing new.outgoing × (new.incoming ≡ old.incoming)
SendsCall (Err fault) method messages old new = WhyNot fault method messages old new

-- a connection has stopped by this fault, and nothing else is done
abbrev pub StopsAt : Fault → Line → Line → Type 0
StopsAt fault old new = (new.outgoing ≡ old.outgoing)
    × (new.incoming ≡ record old.incoming { left = stopped_by fault old.incoming.left })

-- why a message of a call was not sent: it is too long (F2), or memory was refused for it (F21)
abbrev pub IsUnmade : Fault → List Payload → Type 0
IsUnmade fault messages = ((fault ≡ MessageTooLarge) × ¬ Fit messages) ⊎ (fault ≡ OutOfMemory)

-- these bytes of a call were sent, or wait; or a write failed (F22), and the connection has stopped
abbrev pub SendsPart : Result (Unit {0}) Fault → List ℕ → Line → Line → List ℕ → List ℕ → Type 0
SendsPart (Ok done) bytes old new before after =
    Sent old.outgoing.output new.outgoing.output before after bytes
    × (new.outgoing.failed ≡ old.outgoing.failed) × (new.incoming ≡ old.incoming)
SendsPart (Err fault) bytes old new before after =
    (fault ≡ Transport) × NotSent old.outgoing.output new.outgoing.output before after bytes
    × (new.outgoing.failed ≡ old.outgoing.failed + 1)
    × (new.incoming ≡ record old.incoming { left = stopped_by Transport old.incoming.left })

-- ---- reading

-- what is left after an answer that came to its Status; or it did not, by a fault
abbrev pub left_behind : {A : Type 0} → Result A Fault → Received → Result Received Stop
left_behind (Ok answer) left = Ok left
left_behind (Err fault) left = stopped_at fault left

-- what such an answer gives
abbrev pub given : {A : Type 0} → Result (Result A Failure) Fault → Result A Failure
given (Ok answer) = answer
given (Err fault) = Err (Found fault)

-- an answer came after what was left, and nothing was written
abbrev pub Receives : (Incoming → Incoming → Received → Type 0) → Line → Line → Type 0
Receives Answers old new =
    (left : Received) × (old.incoming.left ≡ Ok left)
    × ((came : List ℕ) × Advances old.incoming.input new.incoming.input came
    × Answers old.incoming new.incoming (with_more left came))
    × (new.outgoing ≡ old.outgoing)
