-- Inside: workers, with what they drew.
use Rattle.std.specs.Prelude.{◌≡◌, ◌<◌, ℕ, List, [], map, IfOk}
use Rattle.std.specs.Prelude.{IsSome, Option, Some, None}
use Rattle.atomic_table.specs.Seated.{TableId}
use Rattle.version_log.specs.Log.{Log, Begins}
use Rattle.logbook.specs.Pages.{Book}
use Rattle.version_cell.specs.Rests.{RestAt}
use Rattle.version_cell.specs.Seats as cell
use Rattle.flight_calls.specs.declared.setting.Options.{Options}
use Rattle.flight_core.specs.Seats.{Seat, seat_of}
use Rattle.shared_calls.specs.Sharing.{onward, seat_at}
use Rattle.connection_turns.specs.Drawers.{DrawerAt, drawer_at}
use Rattle.command_ends.specs.Network.{Accepting, Ends}
use Rattle.command_ends.specs.Printing.{PortLineAt}
use Rattle.commands.specs.declared.crew.CrewMember as declared
use Rattle.commands.specs.ShownSeat.{IsNewSeat}
use Rattle.commands.specs.Serve.{Pays, Worker, ServesUpTo}
use Rattle.commands.specs.ServeSideBySide.{Work}
use Rattle.commands.specs.Serve.{worker_of}

-- a worker's seat of the cell, which is always there between two connections
abbrev pub seat_in : Option cell.Seat → Seat
seat_in (Some scanner) = seat_at scanner
seat_in None = seat_of [] 0

-- a worker as the code has it
abbrev pub HiredWorker : Type 0 → Type 0
HiredWorker L = declared.CrewMember L cell.Seat DrawerAt

abbrev pub state_of : {L : Type 0} → HiredWorker L → Worker L
state_of hired = worker_of hired.listener (seat_in hired.scanner)

abbrev pub work_of : {L : Type 0} → HiredWorker L → Work L
work_of hired =
    record { worker = state_of hired; drawn = hired.drawer.drawn; result = hired.served }

-- it may draw, and has not yet
abbrev pub IsNew : {L : Type 0} → TableId → HiredWorker L → Type 0
IsNew name hired = IsSome hired.scanner × (hired.drawer ≡ drawer_at name 1 0 0)

-- Its listener hears the port of the one that gave it, and no connection that it gave is open. It
-- was shown no seat yet, and may be shown those of the cell with this book. It may be asked for an
-- accept where the other one may.
pub record IsAtRest {L : Type 0} (at_rest : L → Type 0) (port_of : L → ℕ)
    (rests known : L → RestAt → Type 0) (due : L → ℕ → Option (List ℕ) → Type 0) (heard : L)
    (book : Book) (hired : HiredWorker L) : Type 0 where
  pub free : at_rest hired.listener
  pub port : port_of hired.listener ≡ port_of heard
  pub stands : (new : RestAt) → IsNewSeat new → rests hired.listener new
  pub knows : (shown : RestAt) → shown.book ≡ book → known hired.listener shown
  pub dues : (port : ℕ) (held : Option (List ℕ)) → due heard port held →
      due hired.listener port held

-- It may serve: it is new, and its seat has seen nothing. Its listener may accept, where the line
-- of its port was printed so. What is owed for a connection is that it is served.
pub record MayServe {L : Type 0} (at_rest : L → Type 0) (port_of : L → ℕ)
    (rests known : L → RestAt → Type 0) (due : L → ℕ → Option (List ℕ) → Type 0)
    (owed : RestAt → Ends → Ends → RestAt → Type 0) (options : Options)
    (announced : PortLineAt) (book : Book) (name : TableId) (hired : HiredWorker L) : Type 0 where
  pub new : IsNew name hired
  pub fresh : seat_in hired.scanner ≡ seat_of [] 0
  pub free : at_rest hired.listener
  pub port : announced.port ≡ port_of hired.listener
  pub dues : due hired.listener announced.port announced.held
  pub stands : (new : RestAt) → IsNewSeat new → rests hired.listener new
  pub knows : (shown : RestAt) → shown.book ≡ book → known hired.listener shown
  pub pays : Pays onward options owed

-- where it ended well, it was told that no turn is left
abbrev pub HasDrawn : {L : Type 0} → TableId → HiredWorker L → Type 0
HasDrawn name hired =
    IsSome hired.scanner × (hired.drawer.name ≡ name) × (hired.drawer.parts ≡ 1)
    × IfOk hired.served (λ _. 0 < hired.drawer.ended)

-- a worker served the connections that it drew
pub record HasWorked {L : Type 0} (accepts : Accepting L) (options : Options) (name : TableId)
    (old new : HiredWorker L) : Type 0 where
  pub serves : ServesUpTo accepts onward options new.drawer.drawn new.served (state_of old)
      (state_of new)
  pub drawn : HasDrawn name new

-- all that the seat of a worker has seen is of this history
abbrev pub IsWithin : {L : Type 0} → Log → HiredWorker L → Type 0
IsWithin history hired = Begins (seat_in hired.scanner).log history

-- the listeners of workers, as the code has them
abbrev pub hired_listeners : {L : Type 0} → List (HiredWorker L) → List L
hired_listeners workers = map (λ hired. hired.listener) workers
