-- Connections of workers that were new.
use Rattle.std.proofs.Common.{◌≡◌, ℕ, zero, suc, List, [], ◌∷◌, Some, Result, Ok}
use Rattle.std.specs.List.{slice_get}
use Rattle.scan_base.specs.declared.fault.Fault.{Fault}
use Rattle.flight_info.proofs.Results.{same_some}
use Rattle.flight_calls.specs.declared.setting.Options.{Options}
use Rattle.flight_calls.specs.Laws.{IsNew}
use Rattle.flight_core.specs.Seats.{Seat}
use Rattle.flight_calls.specs.OwedAnswers.{Connection, Serves, connection_of}
use Rattle.flight_calls.proofs.New.{new_whole}
use Rattle.shared_calls.specs.Sharing.{onward}
use Rattle.command_ends.specs.Network.{Accepting, Ends}
use Rattle.commands.specs.New.{TakenAreWhole}
use Rattle.commands.specs.Serve.{Accept, AcceptsThenCloses, Broke, Failed, Took, Worker}
use Rattle.commands.specs.Serve.{ServesInTurn, worker_of}

-- an accept took a connection of these ends, and it was served so
record IsTakenSo {L : Type 0} (accepts : Accepting L) (options : Options) (result : Result (Unit {0}) Fault) (last : Connection) : Type 0 where
  before : L
  behind : L
  ends : Ends
  seat : Seat
  took : accepts before (Ok ends) behind
  serves : Serves onward options result (connection_of ends.input ends.output 0 0 seat) last

taken_so : {L : Type 0} (accepts : Accepting L) (options : Options) (all : List (Accept L)) (more : ℕ) (result : Result (Unit {0}) Fault) (old new : Worker L)
    (place : ℕ) (at : L) (ends : Ends) (served : Result (Unit {0}) Fault) (last : Connection)
    → ServesInTurn accepts onward options all more result old new → slice_get all place ≡ Some (Took at ends served last) → IsTakenSo accepts options served last
taken_so {L} accepts options [] more result old new place at ends served last s e = absurd cc
taken_so {L} accepts options (Failed listener ∷ all) zero result old new place at ends served last s e = absurd s
taken_so {L} accepts options (Failed listener ∷ all) (suc more) result old new zero at ends served last s e = absurd cc
taken_so {L} accepts options (Failed listener ∷ all) (suc more) result old new (suc place) at ends served last s e =
    taken_so accepts options all (suc more) result (worker_of listener old.seat) new place at ends served last s.1 e
taken_so {L} accepts options (Broke listener ∷ all) zero result old new place at ends served last s e = absurd s
taken_so {L} accepts options (Broke listener ∷ all) (suc more) result old new zero at ends served last s e = absurd cc
taken_so {L} accepts options (Broke listener ∷ all) (suc more) result old new (suc place) at ends served last s e =
    let none : slice_get [] place ≡ Some (Took at ends served last) = rw s.1 at e in
    absurd (cc none)
taken_so {L} accepts options (Took listener its found end ∷ all) zero result old new place at ends served last s e = absurd s
taken_so {L} accepts options (Took listener its found end ∷ all) (suc more) result old new zero at ends served last s e =
    let so : found ≡ served = cc (same_some e) in
    let same : end ≡ last = cc (same_some e) in
    let it : IsTakenSo accepts options found end
    = record { before = old.listener; behind = listener; ends = its; seat = s.1.1.start; took = s.0; serves = s.1.1.serves } in
    rw (so, same) at it
taken_so {L} accepts options (Took listener its found end ∷ all) (suc more) result old new (suc place) at ends served last s e =
    taken_so accepts options all more result (worker_of listener s.1.0) new place at ends served last s.1.2 e

pub taken_whole : {L : Type 0} (accepts : Accepting L) (closes : L → L → Type 0) → TakenAreWhole accepts closes
taken_whole {L} accepts closes gives options history result last t =
    let all = t.part.serves in
    let taken = taken_so (AcceptsThenCloses accepts closes) options all.all t.new.drawn t.new.result (worker_of t.old.listener all.first) t.new.worker t.place t.listener t.ends result last all.turns t.took in
    let made : Connection = connection_of taken.ends.input taken.ends.output 0 0 taken.seat in
    let was_new : IsNew made = gives taken.before taken.took.0 taken.ends taken.took.1 in
    record { old = made; serves = taken.serves; whole = new_whole onward options result made last taken.serves was_new }
