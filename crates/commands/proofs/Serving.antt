-- Accepts, and connections that are served one after the other.
use native.Mathlib.Omega.{arith}
use Rattle.std.proofs.Common.{◌≡◌, ◌∙◌, ℕ, zero, suc, ◌+◌, List, [], ◌∷◌, Option, Result, Ok, Err, ap, refl, subst, sym}
use Rattle.scan_base.specs.declared.fault.Fault.{Fault}
use Rattle.scan_base.specs.declared.fault.Fault.TheVariants.{Transport}
use Rattle.grpc_frame.specs.Ends.{Tape}
use Rattle.logbook.specs.Pages.{Book}
use Rattle.version_log.specs.Log.{Begins, Log}
use Rattle.version_cell.specs.Rests.{RestAt}
use Rattle.version_cell.specs.SignedEntries.{log_of}
use Rattle.flight_core.proofs.Running.{begins_on, begins_same}
use Rattle.flight_calls.specs.declared.setting.Options.{Options}
use Rattle.flight_core.specs.PlacedEntries.{Placed}
use Rattle.flight_core.specs.Seats.{Learns, Moves, Seat}
use Rattle.shared_calls.specs.Sharing.{RestsAs}
use Rattle.flight_calls.specs.OwedAnswers.{Connection, Serves, connection_of}
use Rattle.command_ends.specs.Network.{Accepting, Ends, ends_of}
use Rattle.command_ends.specs.declared.accept_failure.AcceptFailure.TheVariants.{MayPass}
use Rattle.commands.specs.ShownSeat.{HasLearnt, IsSameSeat, IsShownAs, WasShown, seat_shown}
use Rattle.commands.specs.Serve.{Accept, AcceptsThenCloses, AsksOthers, Broke, Failed, IsServedTo}
use Rattle.commands.specs.Serve.{Took, Worker, ServesInTurn, ServesNext, ServesUpTo, worker_of}
use Rattle.commands.specs.inside.Accepting.{FailsSo, TakesNext, TakesNone}

-- so many connections more
abbrev pub ServesRest : {L : Type 0} → Accepting L → Moves → Options → ℕ → Result (Unit {0}) Fault → Worker L → Worker L → Type 0
ServesRest {L} accepts moves options more result old new =
    (all : List (Accept L)) × ServesInTurn accepts moves options all more result old new

-- one accept more that failed
pub fails_more : {L : Type 0} (accepts : Accepting L) (old middle new : L) → ((failed : ℕ) × FailsSo accepts failed old middle) → accepts middle (Err MayPass) new
    → (failed : ℕ) × FailsSo accepts failed old new
fails_more {L} accepts old middle new so failed = (suc so.0, (middle, so.1, failed))

-- accepts that failed took no connection that is closed
no_closing : {L : Type 0} (accepts : Accepting L) (closes : L → L → Type 0) (failed : ℕ) (old new : L) → FailsSo accepts failed old new
    → FailsSo (AcceptsThenCloses accepts closes) failed old new
no_closing {L} accepts closes zero old new passed = passed
no_closing {L} accepts closes (suc failed) old new passed = (passed.0, no_closing accepts closes failed old passed.0 passed.1, passed.2)

-- accepts that failed, before what follows
failed_before : {L : Type 0} (accepts : Accepting L) (moves : Moves) (options : Options) (more failed : ℕ) (result : Result (Unit {0}) Fault) (old middle : L) (seat : Seat) (new : Worker L)
    → FailsSo accepts failed old middle → ServesRest accepts moves options (suc more) result (worker_of middle seat) new
    → ServesRest accepts moves options (suc more) result (worker_of old seat) new
failed_before {L} accepts moves options more zero result old middle seat new passed rest =
    subst (λ (l : L). ServesRest accepts moves options (suc more) result (worker_of l seat) new) passed rest
failed_before {L} accepts moves options more (suc failed) result old middle seat new passed rest =
    failed_before accepts moves options more failed result old passed.0 seat new passed.1 (Failed middle ∷ rest.0, (passed.2, rest.1))

-- What follows so many connections is all, from the start: with any number more, as many in all are served.
abbrev pub ServedSo : {L : Type 0} → Accepting L → Moves → Options → ℕ → Worker L → Worker L → Type 0
ServedSo {L} accepts moves options served start now =
    (more : ℕ) (result : Result (Unit {0}) Fault) (new : Worker L) → ServesRest accepts moves options more result now new
    → ServesRest accepts moves options (served + more) result start new

pub none_served : {L : Type 0} (accepts : Accepting L) (moves : Moves) (options : Options) (start : Worker L)
    → ServedSo accepts moves options 0 start start
none_served {L} accepts moves options start more result new rest =
    let same : more ≡ 0 + more = omega arith in
    subst (λ (n : ℕ). ServesRest accepts moves options n result start new) same rest

counted_once : (served more : ℕ) → served + suc more ≡ served + 1 + more
counted_once served more = omega arith

counted_all : (served : ℕ) → served + 0 ≡ served
counted_all served = omega arith

-- a connection that was taken is served after one ask, and there is one more when it has ended
pub next_served : (moves : Moves) (options : Options) (old start new : Seat) (input : Tape) (output : Option (List ℕ)) (reads writes : ℕ) (result : Result (Unit {0}) Fault) (last : Connection)
    → reads ≡ 0 → writes ≡ 0 → AsksOthers moves old start → Serves moves options result (connection_of input output reads writes start) last → AsksOthers moves last.seat new
    → ServesNext moves options old (ends_of input output) result last new
next_served moves options old start new input output reads writes result last unread unwritten asked serves learnt =
    let first : Serves moves options result (connection_of input output 0 0 start) last = rw (unread, unwritten) at serves in
    record { start = start; asked = asked; serves = first; learnt = learnt }

-- one connection more
pub one_more : {L : Type 0} (accepts : Accepting L) (closes : L → L → Type 0) (moves : Moves) (options : Options) (served : ℕ) (start : Worker L) (old middle new : L) (seat next : Seat) (ends : Ends) (result : Result (Unit {0}) Fault) (last : Connection)
    → ServedSo (AcceptsThenCloses accepts closes) moves options served start (worker_of old seat)
    → TakesNext accepts ends old middle → closes middle new → ServesNext moves options seat ends result last next
    → ServedSo (AcceptsThenCloses accepts closes) moves options (served + 1) start (worker_of new next)
one_more {L} accepts closes moves options served start old middle new seat next ends result last so takes closed serves more end final rest =
    let turns : Accepting L = AcceptsThenCloses accepts closes in
    let first : ServesRest turns moves options (suc more) end (worker_of takes.listener seat) final
    = (Took new ends result last ∷ rest.0, ((middle, takes.took, closed), (next, serves, rest.1))) in
    let all : ServesRest turns moves options (suc more) end (worker_of old seat) final
    = failed_before turns moves options more takes.failed end old takes.listener seat final
    (no_closing accepts closes takes.failed old takes.listener takes.passed) first in
    subst (λ (n : ℕ). ServesRest turns moves options n end start final) (counted_once served more) (so (suc more) end final all)

-- what is served, as `serve_in_turn` says it
up_to : {L : Type 0} (accepts : Accepting L) (moves : Moves) (options : Options) (drawn : ℕ) (result : Result (Unit {0}) Fault) (listener : L) (seat first : Seat) (new : Worker L)
    → AsksOthers moves seat first → ServesRest accepts moves options drawn result (worker_of listener first) new
    → ServesUpTo accepts moves options drawn result (worker_of listener seat) new
up_to {L} accepts moves options drawn result listener seat first new asked rest =
    record { first = first; asked = asked; all = rest.0; turns = rest.1 }

-- no connection more, where one was drawn
pub no_more : {L : Type 0} (accepts : Accepting L) (closes : L → L → Type 0) (moves : Moves) (options : Options) (served drawn : ℕ) (listener old new : L) (begun first seat : Seat) (fault : Fault)
    → drawn ≡ served + 1 → AsksOthers moves begun first → ServedSo (AcceptsThenCloses accepts closes) moves options served (worker_of listener first) (worker_of old seat) → TakesNone accepts old new → fault ≡ Transport
    → ServesUpTo (AcceptsThenCloses accepts closes) moves options drawn (Err fault) (worker_of listener begun) (worker_of new seat)
no_more {L} accepts closes moves options served drawn listener old new begun first seat fault one asked so takes kind =
    let turns : Accepting L = AcceptsThenCloses accepts closes in
    let none : ServesRest turns moves options 1 (Err fault) (worker_of takes.listener seat) (worker_of new seat)
    = (Broke new ∷ [], (takes.broke, refl, refl, ap Err kind, refl)) in
    let all : ServesRest turns moves options 1 (Err fault) (worker_of old seat) (worker_of new seat)
    = failed_before turns moves options 0 takes.failed (Err fault) old takes.listener seat (worker_of new seat) (no_closing accepts closes takes.failed old takes.listener takes.passed) none in
    rw one (up_to turns moves options (served + 1) (Err fault) listener begun first (worker_of new seat) asked (so 1 (Err fault) (worker_of new seat) all))

-- as many as were drawn
pub all_served : {L : Type 0} (accepts : Accepting L) (moves : Moves) (options : Options) (served drawn : ℕ) (listener : L) (begun first : Seat) (now : Worker L)
    → drawn ≡ served → AsksOthers moves begun first → ServedSo accepts moves options served (worker_of listener first) now
    → ServesUpTo accepts moves options drawn (Ok tt) (worker_of listener begun) now
all_served {L} accepts moves options served drawn listener begun first now same asked so =
    let whole : ServesRest accepts moves options (served + 0) (Ok tt) (worker_of listener first) now = so 0 (Ok tt) now ([], (refl, refl)) in
    rw same (up_to accepts moves options served (Ok tt) listener begun first now asked
    (subst (λ (n : ℕ). ServesRest accepts moves options n (Ok tt) (worker_of listener first) now) (counted_all served) whole))

-- what is owed for a connection, where the seat is shown as it rested before and after it
pub served_to : (moves : Moves) (options : Options) (before behind : RestAt) (old new : Seat) (made left : Ends) (result : Result (Unit {0}) Fault) (last : Connection)
    → ServesNext moves options old made result last new → left ≡ ends_of last.input last.output
    → old ≡ seat_shown before old.looks → new ≡ seat_shown behind new.looks → IsSameSeat before behind
    → IsServedTo moves options before made left behind
served_to moves options before behind old new made left result last serves leaves shown shown_behind same =
    let looks : new.looks ≡ last.seat.looks = serves.learnt.2 in
    let end : new ≡ seat_shown behind last.seat.looks = shown_behind ∙ ap (seat_shown behind) looks in
    record {
      looks = old.looks;
      result = result;
      last = last;
      serves = subst (λ (seat : Seat). ServesNext moves options seat made result last (seat_shown behind last.seat.looks)) shown
          (subst (λ (seat : Seat). ServesNext moves options old made result last seat) end serves);
      leaves = leaves;
      same = same;
    }

-- ---- what is shown of a seat

-- what a backend tells of its seat when it asked
pub told_so : (rest : RestAt) (book : Book) (number : ℕ) (seat : Seat) → RestsAs rest book seat → rest.seat ≡ number → IsShownAs rest book number seat
told_so rest book number seat rests same = (rests.book, same, rests.log, rests.made, rests.asks)

abbrev seat_with : ℕ → Log → List Placed → ℕ → Seat
seat_with looks log made asks = record { log = log; looks = looks; made = made; asks = asks }

-- the seat itself, after its looks
pub as_shown : (shown : RestAt) (book : Book) (number : ℕ) (seat : Seat) → IsShownAs shown book number seat → seat ≡ seat_shown shown seat.looks
as_shown shown book number seat is =
    sym (ap (λ (log : Log). seat_with seat.looks log shown.made shown.asks) is.2
    ∙ (ap (λ (made : List Placed). seat_with seat.looks seat.log made shown.asks) is.3 ∙ ap (seat_with seat.looks seat.log seat.made) is.4))

-- a seat that asked has learnt since it was shown last
pub learnt_so : (moves : Moves) (shown rest : RestAt) (book : Book) (number : ℕ) (old new : Seat)
    → WasShown shown book number old → Learns moves old new → IsShownAs rest book number new → HasLearnt shown rest
learnt_so moves shown rest book number old new was learns is = (
  (is.0 ∙ sym was.0, is.1 ∙ sym was.1),
  subst (λ (log : Log). Begins (log_of shown.log) log) (sym is.2) (begins_on (log_of shown.log) old.log new.log was.2 learns.0),
  is.3 ∙ learns.1 ∙ sym was.3,
)

-- a seat that is shown as it was has learnt nothing
pub learnt_none : (shown : RestAt) → HasLearnt shown shown
learnt_none shown = ((refl, refl), begins_same (log_of shown.log) (log_of shown.log) refl, refl)

-- seats that are shown of one cell, with one number, are one
pub same_seat : (before behind : RestAt) (book : Book) (number : ℕ) (old new : Seat) → IsShownAs before book number old → IsShownAs behind book number new → IsSameSeat before behind
same_seat before behind book number old new was is = (is.0 ∙ sym was.0, is.1 ∙ sym was.1)

-- what a listener was shown, when the seat has asked
pub shown_first : (rests : RestAt → Type 0) (moves : Moves) (book : Book) (number : ℕ) (old new : Seat) (shown : RestAt)
    → ((seat : RestAt) × rests seat × WasShown seat book number old) → Learns moves old new → IsShownAs shown book number new
    → (seat : RestAt) × rests seat × HasLearnt seat shown
shown_first rests moves book number old new shown (seat, stands, was) learns is =
    (seat, stands, learnt_so moves seat shown book number old new was learns is)

-- what a listener is shown is how the seat stands
pub shown_so : (rests : RestAt → Type 0) (shown : RestAt) → rests shown → (seat : RestAt) × rests seat × HasLearnt seat shown
shown_so rests shown stands = (shown, stands, learnt_none shown)
