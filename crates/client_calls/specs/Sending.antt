-- A put while it is sent, message by message.
use Rattle.std.specs.Prelude.{◌≡◌, ◌⊎◌, ℕ, ◌+◌, List, [], ◌∷◌, map, None, Result, Ok, Err}
use Rattle.std.specs.List.{flat_map}
use Rattle.scan_base.specs.declared.fault.Fault.{Fault}
use Rattle.scan_base.specs.declared.fault.Fault.TheVariants.{MessageTooLarge, OutOfMemory}
use Rattle.scan_base.specs.declared.fault.Fault.TheVariants.{Transport}
use Rattle.grpc_frame.specs.declared.record.Record.TheVariants.{Open, Message}
use Rattle.grpc_frame.specs.Ends.{AppendsBeginning}
use Rattle.grpc_frame.specs.Records.{spelling, Received}
use Rattle.grpc_frame.specs.Sending.{Sent}
use Rattle.flight_info.specs.Payloads.{Payload}
use Rattle.flight_proto.specs.FlightData.{data_bytes}
use Rattle.ipc_stream.specs.declared.message.IpcMessage.{IpcMessage}
use Rattle.client_calls.specs.declared.call.Method.TheVariants.{DoPut}
use Rattle.client_calls.specs.declared.failure.Failure.{Failure}
use Rattle.client_calls.specs.declared.failure.Failure.TheVariants.{Found}
use Rattle.client_calls.specs.declared.put_call.Target.{Target}
use Rattle.client_calls.specs.Answers.{Stop}
use Rattle.client_calls.specs.Calls.{path_of, Fit}
use Rattle.client_calls.specs.Commands.{carried_in, put_payloads}
use Rattle.client_calls.specs.Outcome.{Line, stopped_by}

-- a put that is being sent: its connection, and the bytes that wait for the next write
pub record PutAt : Type 0 where
  pub line : Line
  pub waiting : List ℕ

abbrev pub put_at : Line → List ℕ → PutAt
put_at line waiting = record { line = line; waiting = waiting }

-- a message of the stream after the first, as a put has it
abbrev pub later_payload : IpcMessage → Payload
later_payload message = data_bytes None (carried_in message)

-- the bytes of a put of these messages, without its End
abbrev pub unended_bytes : List Payload → List ℕ
unended_bytes messages = flat_map spelling (Open (path_of DoPut) ∷ map Message messages)

-- a put of these messages was sent, without its End: it is written, but for what waits, and nothing
-- was read
pub record IsPutWriter (messages : List Payload) (old : Line) (now : PutAt) : Type 0 where
  pub left : Received
  pub is_open : old.incoming.left ≡ Ok left
  pub fit : Fit messages
  pub sent : Sent old.outgoing.output now.line.outgoing.output [] now.waiting
      (unended_bytes messages)
  pub quiet : now.line.outgoing.failed ≡ old.outgoing.failed
  pub unread : now.line.incoming ≡ old.incoming

-- A put of these messages was cut short by a fault: a beginning of it is written, without its End,
-- or nothing. Nothing was read, and the connection has stopped.
pub record IsCutShort (fault : Fault) (messages : List Payload) (old new : Line) : Type 0 where
  pub wrote : AppendsBeginning old.outgoing.output new.outgoing.output (unended_bytes messages)
  pub stopped : new.incoming ≡ record old.incoming { left = stopped_by fault old.incoming.left }

-- why: a write failed and was counted (F22); or a message is too long (F2), memory was refused
-- (F21), or a call before had stopped
abbrev pub WhyCut : Fault → List Payload → Line → Line → Type 0
WhyCut fault messages old new =
    ((fault ≡ Transport) × (new.outgoing.failed ≡ old.outgoing.failed + 1))
    ⊎ ((((fault ≡ MessageTooLarge) × ¬ Fit messages) ⊎ ((fault ≡ OutOfMemory)
    ⊎ ((stop : Stop) × (old.incoming.left ≡ Err stop) × (fault ≡ stop.fault))))
    × (new.outgoing.failed ≡ old.outgoing.failed))

-- a put failed while these messages were sent
abbrev pub FailsPut : Failure → List Payload → Line → Line → Type 0
FailsPut failure messages old new = (fault : Fault) × (failure ≡ Found fault)
    × WhyCut fault messages old new × IsCutShort fault messages old new

-- a put was begun, seen by `view`: the first message of its stream was sent; or it failed
abbrev pub BeginsPut : {A : Type 0} → (A → PutAt) → Target → IpcMessage → Result A Failure →
    Line → Type 0
BeginsPut view target first (Ok putting) old =
    IsPutWriter (put_payloads target (first ∷ [])) old (view putting)
BeginsPut view target first (Err failure) old =
    (new : Line) × FailsPut failure (put_payloads target (first ∷ [])) old new

-- a put of these messages was sent so far, or it failed
abbrev pub SendsPut : Result (Unit {0}) Failure → List Payload → Line → PutAt → Type 0
SendsPut (Ok done) messages old now = IsPutWriter messages old now
SendsPut (Err failure) messages old now = FailsPut failure messages old now.line
