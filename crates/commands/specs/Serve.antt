-- What one worker of `serve` does.
use Rattle.std.specs.Prelude.{◌≡◌, ℕ, zero, suc, List, [], ◌∷◌}
use Rattle.std.specs.Prelude.{Result, Ok, Err}
use Rattle.scan_base.specs.declared.fault.Fault.{Fault}
use Rattle.scan_base.specs.declared.fault.Fault.TheVariants.{Transport}
use Rattle.version_cell.specs.Rests.{RestAt}
use Rattle.flight_calls.specs.declared.setting.Options.{Options}
use Rattle.flight_core.specs.Seats.{AsksOnce, Learns, Moves, Seat}
use Rattle.flight_calls.specs.OwedAnswers.{Connection, Serves, connection_of}
use Rattle.command_ends.specs.Network.{Accepting, Ends, ends_of}
use Rattle.command_ends.specs.declared.accept_failure.AcceptFailure.TheVariants.{Broken, MayPass}
use Rattle.commands.specs.ShownSeat.{IsSameSeat, seat_shown}

-- ---- a worker

-- one of those that serve, between two connections: its listener, and the seat of its backend
pub record Worker (L : Type 0) : Type 0 where
  pub listener : L
  pub seat : Seat

-- a worker of this listener and this seat
abbrev pub worker_of : {L : Type 0} → L → Seat → Worker L
worker_of listener seat = record { listener = listener; seat = seat }

-- An accept: it failed, and the listener is this one; or it took a connection of these ends, and
-- this one is the listener when that is closed.
abbrev pub AcceptsThenCloses : {L : Type 0} → Accepting L → (L → L → Type 0) → Accepting L
AcceptsThenCloses accepts closes old (Err failure) new = accepts old (Err failure) new
AcceptsThenCloses {L} accepts closes old (Ok ends) new =
    (middle : L) × accepts old (Ok ends) middle × closes middle new

-- a seat asked once what others have done: it made nothing, and did not look
abbrev pub AsksOthers : Moves → Seat → Seat → Type 0
AsksOthers moves old new = Learns moves old new × AsksOnce old new × (new.looks ≡ old.looks)

-- A connection of these ends was served for a seat, and left so. Once it was taken the seat asked
-- what others had done, and served it from there; and once more when it had ended.
pub record ServesNext (moves : Moves) (options : Options) (old : Seat) (ends : Ends)
    (result : Result (Unit {0}) Fault) (last : Connection) (new : Seat) : Type 0 where
  pub start : Seat
  pub asked : AsksOthers moves old start
  pub serves : Serves moves options result (connection_of ends.input ends.output 0 0 start) last
  pub learnt : AsksOthers moves last.seat new

-- a connection of these ends was served for a seat that is shown so, left those ends, and that is
-- what is shown of the seat then
pub record IsServedTo (moves : Moves) (options : Options) (old : RestAt) (made left : Ends)
    (new : RestAt) : Type 0 where
  pub looks : ℕ
  pub result : Result (Unit {0}) Fault
  pub last : Connection
  pub serves : ServesNext moves options (seat_shown old looks) made result last
      (seat_shown new last.seat.looks)
  pub leaves : left ≡ ends_of last.input last.output
  pub same : IsSameSeat old new

-- whatever is owed for a connection, serving it to its end is that
abbrev pub Pays : Moves → Options → (RestAt → Ends → Ends → RestAt → Type 0) → Type 0
Pays moves options owed =
    (old : RestAt) (made left : Ends) (new : RestAt) → IsServedTo moves options old made left new →
    owed old made left new

-- an accept, and the listener after it: it failed by what may pass; it broke; or it took a
-- connection, which was served so
pub data Accept (L : Type 0) : Type 0 where
  Failed : L → Accept L
  Broke : L → Accept L
  Took : L → Ends → Result (Unit {0}) Fault → Connection → Accept L

-- These are all accepts, in order, where so many more connections are to be served. Any number of
-- them may have failed before one takes a connection. Each connection begins from the seat that the
-- one before it left, whatever became of that, after one ask. It ends where no more are to be
-- served, or where the listener broke (F22): one alone is then not served.
abbrev pub ServesInTurn : {L : Type 0} → Accepting L → Moves → Options → List (Accept L) → ℕ
    → Result (Unit {0}) Fault → Worker L → Worker L → Type 0
ServesInTurn accepts moves options [] zero result old new = (result ≡ Ok tt) × (new ≡ old)
ServesInTurn accepts moves options (Broke listener ∷ others) (suc more) result old new =
    accepts old.listener (Err Broken) listener × (others ≡ []) × (more ≡ 0)
    × (result ≡ Err Transport) × (new ≡ worker_of listener old.seat)
ServesInTurn accepts moves options (Failed listener ∷ others) (suc more) result old new =
    accepts old.listener (Err MayPass) listener
    × ServesInTurn accepts moves options others (suc more) result (worker_of listener old.seat) new
ServesInTurn accepts moves options (Took listener ends served last ∷ others) (suc more)
    result old new =
    accepts old.listener (Ok ends) listener
    × ((next : Seat) × ServesNext moves options old.seat ends served last next
    × ServesInTurn accepts moves options others more result (worker_of listener next) new)
ServesInTurn accepts moves options others more result old new = ⊥

-- after one ask, so many were served, one after the other; or all but one of them, where the
-- listener broke
pub record ServesUpTo {L : Type 0} (accepts : Accepting L) (moves : Moves) (options : Options)
    (drawn : ℕ) (result : Result (Unit {0}) Fault) (old new : Worker L) : Type 0 where
  pub first : Seat
  pub asked : AsksOthers moves old.seat first
  pub all : List (Accept L)
  pub turns : ServesInTurn accepts moves options all drawn result (worker_of old.listener first) new
