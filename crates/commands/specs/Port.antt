-- What `serve` does with the port that it is given.
use Rattle.std.specs.Prelude.{◌≡◌, ◌⊎◌, ℕ, zero, ◌+◌, length, map, All, List, [], ◌∷◌, Option, Some}
use Rattle.std.specs.Prelude.{None, Result, Ok, Err}
use Rattle.std.specs.Io.KnownBytes.{Appends}
use Rattle.scan_base.specs.declared.fault.Fault.{Fault}
use Rattle.scan_base.specs.declared.fault.Fault.TheVariants.{OutOfMemory, Transport}
use Rattle.grpc_frame.specs.Ends.{AppendsBeginning}
use Rattle.flight_calls.specs.declared.setting.Options.{Options}
use Rattle.flight_core.specs.Seats.{seat_of}
use Rattle.command_line.specs.declared.request.ServeOptions.{ServeOptions}
use Rattle.command_ends.specs.Network.{Accepting}
use Rattle.command_ends.specs.Printing.{Said, Prints, cause_lines, fault_line, listening_line}
use Rattle.command_ends.specs.declared.exit_status.ExitStatus.{ExitStatus}
use Rattle.command_ends.specs.declared.exit_status.ExitStatus.TheVariants.{Done, FaultAtThisEnd}
use Rattle.commands.specs.Serve.{Worker}
use Rattle.commands.specs.ServeSideBySide.{ServesSideBySide}

-- how many connections are drawn, where so many are to be accepted: 0 stands for no end
abbrev pub most_of : ℕ → ℕ
most_of zero = 18446744073709551615
most_of accept = accept

-- how calls are answered
abbrev pub options_of : ServeOptions → Options
options_of serving =
    record { parts = serving.parts; workers = serving.workers; keep = serving.keep }

-- what is asked for, at the port that the network gave
abbrev pub at_port : ℕ → ServeOptions → ServeOptions
at_port port serving = record serving { port = port }

-- an accept may be asked for once the line of a port stands after what an output held
abbrev pub IsDueAfter : (ℕ → Option (List ℕ) → Type 0) → Option (List ℕ) → Type 0
IsDueAfter due before =
    (port : ℕ) (held : Option (List ℕ)) → Appends before held (listening_line port) → due port held

-- its seat has seen nothing
abbrev pub IsFresh : {L : Type 0} → Worker L → Type 0
IsFresh worker = worker.seat ≡ seat_of [] 0

-- what came of asking a listener for a further one: from it as it was, to it as it is then
abbrev pub Sharing : Type 0 → Type 1
Sharing L = L → Option L → L → Type 0

-- it gave these further listeners, one after the other
abbrev pub SharesEach : {L : Type 0} → Sharing L → L → List L → L → Type 0
SharesEach shares old [] new = new ≡ old
SharesEach {L} shares old (listener ∷ others) new =
    (middle : L) × shares old (Some listener) middle × SharesEach shares middle others new

-- it gave some, and no other
abbrev pub SharesSome : {L : Type 0} → Sharing L → L → L → Type 0
SharesSome {L} shares old new = (given : List L) × SharesEach shares old given new

-- it gave some, and refused the next one
abbrev pub RefusesOne : {L : Type 0} → Sharing L → L → L → Type 0
RefusesOne {L} shares old new = (middle : L) × SharesSome shares old middle × shares middle None new

-- the listeners of workers
abbrev pub listeners_of : {L : Type 0} → List (Worker L) → List L
listeners_of workers = map (λ worker. worker.listener) workers

-- The line of the port was printed, and as many workers as there are seats served connections to
-- it, of one history. The network gave each of them its listener, and gave no other.
pub record IsServed {L : Type 0} (accepts : Accepting L) (shares : Sharing L)
    (serving : ServeOptions) (result : Result (Unit {0}) Fault) (heard new : L)
    (out out' : Said) : Type 0 where
  pub printed : Appends out.bytes out'.bytes (listening_line serving.port)
  pub quiet : out'.failures ≡ out.failures
  pub workers : List (Worker L)
  pub many : length workers ≡ serving.seats
  pub given : SharesEach shares heard (listeners_of workers) new
  pub start : All IsFresh workers
  pub served : ServesSideBySide accepts (options_of serving) (most_of serving.accept) workers result

-- the line of the port was not printed
pub record IsNotPrinted (port : ℕ) (out out' : Said) : Type 0 where
  pub begun : AppendsBeginning out.bytes out'.bytes (listening_line port)
  pub counted : out'.failures ≡ out.failures + 1

-- Connections were served; or no memory or no listener was there for it, and nothing is printed; or
-- the port was not printed.
abbrev pub ServesPort : {L : Type 0} → Accepting L → Sharing L → ServeOptions
    → Result (Unit {0}) Fault → L → L → Said → Said → Type 0
ServesPort accepts shares serving (Ok done) heard new out out' =
    IsServed accepts shares serving (Ok done) heard new out out'
ServesPort accepts shares serving (Err fault) heard new out out' =
    IsServed accepts shares serving (Err fault) heard new out out'
    ⊎ (((fault ≡ OutOfMemory) × SharesSome shares heard new × (out' ≡ out))
    ⊎ (((fault ≡ Transport) × RefusesOne shares heard new × (out' ≡ out))
    ⊎ ((fault ≡ Transport) × SharesSome shares heard new × IsNotPrinted serving.port out out')))

-- nothing is said of faults where all was done, and else the fault, in a line
abbrev pub TellsFault : Result (Unit {0}) Fault → ExitStatus → Said → Said → Type 0
TellsFault (Ok done) status said said' = (status ≡ Done) × (said' ≡ said)
TellsFault (Err fault) status said said' =
    (status ≡ FaultAtThisEnd) × Prints (fault_line fault) said said'

-- the network gave a port, which is served; or it gave none, nothing is printed, and why is said
abbrev pub Listens : {L : Type 0} → Accepting L → Sharing L → (Option ℕ → L → Type 0)
    → ServeOptions → ExitStatus → L → Said → Said → Said → Said → Type 0
Listens {L} accepts shares Hears serving status new out out' said said' =
    ((port : ℕ) × (heard : L) × Hears (Some port) heard × ((result : Result (Unit {0}) Fault)
    × ServesPort accepts shares (at_port port serving) result heard new out out'
    × TellsFault result status said said'))
    ⊎ (Hears None new × ((cause : List ℕ)
    × (out' ≡ out) × (status ≡ FaultAtThisEnd) × Prints (cause_lines cause) said said'))
