-- A whole input.
use Rattle.std.specs.Prelude.{◌≡◌, ◌⊎◌, ℕ, ◌+◌, List, Result, Ok, Err}
use Rattle.std.specs.Io.KnownBytes.{IsAtEnd}
use Rattle.scan_base.specs.declared.fault.Fault.{Fault}
use Rattle.scan_base.specs.declared.fault.Fault.TheVariants.{BadFlatbuffer, OutOfMemory, Transport}
use Rattle.grpc_frame.specs.Ends.{Advances, Tape}
use Rattle.grpc_frame.specs.declared.ends.Input.{Ghosts as InputMembers}
use Rattle.ipc_stream.specs.declared.message.IpcMessage.{IpcMessage}
use Rattle.ipc_stream.specs.Stream.{Framed, IsStream}

-- an input: its tape, and how many reads have failed
pub record Source : Type 0 where
  pub tape : Tape
  pub failed : ℕ

-- both of an input, whose trait's ghost members these are
abbrev pub source_of : {R : Type 0} → InputMembers R → R → Source
source_of members input = record { tape = members.tape input; failed = members.failures input }

-- all that was left came, which is these bytes, and no read failed
pub record Gives (bytes : List ℕ) (old new : Source) : Type 0 where
  pub came : Advances old.tape new.tape bytes
  pub end : IsAtEnd new.tape.left
  pub quiet : new.failed ≡ old.failed

-- a read failed and was counted (F22), or memory was refused (F21)
abbrev pub StopsReading : Fault → Source → Source → Type 0
StopsReading fault old new =
    ((fault ≡ Transport) × (new.failed ≡ old.failed + 1))
    ⊎ ((fault ≡ OutOfMemory) × (new.failed ≡ old.failed))

-- the bytes of the whole input, or why there are none
abbrev pub ReadsWhole : Result (List ℕ) Fault → Source → Source → Type 0
ReadsWhole (Ok bytes) old new = Gives bytes old new
ReadsWhole (Err fault) old new = StopsReading fault old new

-- the whole input is no Arrow IPC stream
pub record IsNoStream (old new : Source) : Type 0 where
  pub bytes : List ℕ
  pub gives : Gives bytes old new
  pub none : ¬ IsStream bytes

-- the whole input is the Arrow IPC stream of these messages
pub record IsStreamOf (messages : List IpcMessage) (old new : Source) : Type 0 where
  pub bytes : List ℕ
  pub gives : Gives bytes old new
  pub rest : List ℕ
  pub framed : Framed bytes messages rest

-- the messages of the whole input, seen by `view`; or it is no stream (F6), or it was not read
abbrev pub ReadsMessages : {A : Type 0} → (A → List IpcMessage) → Result A Fault → Source →
    Source → Type 0
ReadsMessages view (Ok messages) old new = IsStreamOf (view messages) old new
ReadsMessages view (Err fault) old new =
    ((fault ≡ BadFlatbuffer) × IsNoStream old new) ⊎ StopsReading fault old new
