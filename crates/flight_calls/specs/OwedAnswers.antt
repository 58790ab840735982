-- What a server owes for the bytes that came, and what it did with a connection.
use Rattle.std.specs.Prelude.{◌≡◌, ◌≢◌, ◌⊎◌, ℕ, ◌+◌, List, [], ◌∷◌, ◌++◌, map, All, Option, Some}
use Rattle.std.specs.Prelude.{None, Result, Ok, Err}
use Rattle.std.specs.List.{flat_map}
use Rattle.std.specs.Io.KnownBytes.{Appends, IsAtEnd}
use Rattle.scan_base.specs.declared.fault.Fault.{Fault}
use Rattle.scan_base.specs.declared.fault.Fault.TheVariants.{OutOfMemory, Transport}
use Rattle.grpc_frame.specs.declared.place.Place.TheVariants.{BetweenCalls}
use Rattle.grpc_frame.specs.declared.record.Record.{Record}
use Rattle.grpc_frame.specs.declared.record.Record.TheVariants.{Message, End}
use Rattle.grpc_frame.specs.Records.{spelling, IsRecord, Received, Ending, nothing_more, cut}
use Rattle.grpc_frame.specs.Records.{broken, Splits}
use Rattle.grpc_frame.specs.Arrivals.{IsSound}
use Rattle.grpc_frame.specs.Calls.{status_of}
use Rattle.grpc_frame.specs.Ends.{Advances, AppendsBeginning, Tape}
use Rattle.flight_info.specs.Replies.{ReplyAt}
use Rattle.flight_info.specs.Payloads.{FitMessages}
use Rattle.flight_calls.specs.declared.setting.Options.{Options}
use Rattle.flight_calls.specs.Calls.{Call, call_records}
use Rattle.flight_core.specs.Seats.{Seat, Moves}
use Rattle.flight_calls.specs.Responds.{Answers}

-- ---- what follows the whole calls

-- records of which none ends a call, and then this ending
pub record EndsIn (left : Received) (ending : Ending) : Type 0 where
  pub records : List Record
  pub rest : Received
  pub splits : Splits left records rest ending
  pub no_end : All (λ found. found ≢ End) records

-- none of its records ends a call, and none is faulty
abbrev pub EndsInside : Received → Type 0
EndsInside left = EndsIn left cut ⊎ EndsIn left nothing_more

-- bytes after whole calls
abbrev pub behind_calls : List ℕ → Received
behind_calls bytes = record { bytes = bytes; place = BetweenCalls }

-- Why a server ends a connection: a faulty record stands after the whole calls; or memory was
-- refused, and then none stands right after them.
abbrev pub IsCause : Fault → List ℕ → Type 0
IsCause fault rest =
    ((fault ≡ OutOfMemory) × IsSound (behind_calls rest))
    ⊎ EndsIn (behind_calls rest) (broken fault)

-- ---- what is owed

-- the bytes of calls
abbrev pub calls_bytes : List Call → List ℕ
calls_bytes calls = flat_map spelling (flat_map call_records calls)

-- the bytes of an answer: its messages, and then its status
abbrev pub answer_bytes : ReplyAt → List ℕ
answer_bytes reply = flat_map spelling (map Message reply.payloads ++ status_of reply.fault ∷ [])

-- the bytes of the status that says why a connection ends
abbrev pub last_status : Fault → List ℕ
last_status fault = spelling (status_of (Some fault))

-- what is owed for the replies, an item each, and then for the fault that ends the connection
abbrev pub items_owed : List ReplyAt → Option Fault → List (List ℕ)
items_owed replies None = map answer_bytes replies
items_owed replies (Some fault) = map answer_bytes replies ++ last_status fault ∷ []

-- these items were written whole, and of the one that was begun a beginning
abbrev pub Wrote : Option (List ℕ) → Option (List ℕ) → List (List ℕ) → List (List ℕ) → Type 0
Wrote old new done [] = Appends old new (flat_map (λ item. item) done)
Wrote old new done (item ∷ []) =
    (before : Option (List ℕ)) × Wrote old before done [] × AppendsBeginning before new item
Wrote old new done _ = ⊥

-- ---- what became of a connection

-- A connection: the tape of its input, what its output holds, where that is known, how many reads
-- and writes have failed, and the seat of its backend.
pub record Connection : Type 0 where
  pub input : Tape
  pub output : Option (List ℕ)
  pub failed_reads : ℕ
  pub failed_writes : ℕ
  pub seat : Seat

-- the connection with these, in that order
abbrev pub connection_of : Tape → Option (List ℕ) → ℕ → ℕ → Seat → Connection
connection_of input output reads writes seat =
    record {
      input = input;
      output = output;
      failed_reads = reads;
      failed_writes = writes;
      seat = seat;
    }

-- so many reads failed, and so many writes
abbrev pub Fails : ℕ → ℕ → Connection → Connection → Type 0
Fails reads writes old new =
    (new.failed_reads ≡ old.failed_reads + reads) × (new.failed_writes ≡ old.failed_writes + writes)

-- Why a server ends after the whole calls: by its result, what stands there, the fault that it says
-- last, and the item that it only began.
abbrev pub Why : Result (Unit {0}) Fault → Connection → Connection → List ℕ → Option Fault →
    List (List ℕ) → Type 0
Why (Ok done) old new rest None [] = (rest ≡ []) × IsAtEnd new.input.left × Fails 0 0 old new
Why (Err Transport) old new rest None [] = EndsInside (behind_calls rest)
    × (((rest ≢ []) × IsAtEnd new.input.left × Fails 0 0 old new) ⊎ Fails 1 0 old new)
Why (Err Transport) old new rest None (item ∷ []) = Fails 0 1 old new
Why (Err Transport) old new rest (Some fault) (item ∷ []) = IsCause fault rest × Fails 0 1 old new
Why (Err fault) old new rest (Some last) [] =
    (last ≡ fault) × (fault ≢ Transport) × IsCause fault rest × Fails 0 0 old new
Why _ old new rest last begun = ⊥

-- What became of a connection, where the server is set so. What reads gave is whole calls and then
-- a rest; they have one reply each, from the seat before to the seat now; what is owed for them was
-- written in order, all but an item that was only begun.
pub record Serves (moves : Moves) (options : Options) (result : Result (Unit {0}) Fault)
    (old new : Connection) : Type 0 where
  pub calls : List Call
  pub rest : List ℕ
  pub fits : All IsRecord (flat_map call_records calls)
  pub consumed : Advances old.input new.input (calls_bytes calls ++ rest)
  pub replies : List ReplyAt
  pub answers : Answers moves options old.seat calls replies new.seat
  pub sent : All (λ reply. FitMessages reply.payloads) replies
  pub last : Option Fault
  pub done : List (List ℕ)
  pub begun : List (List ℕ)
  pub owes : items_owed replies last ≡ done ++ begun
  pub wrote : Wrote old.output new.output done begun
  pub why : Why result old new rest last begun
