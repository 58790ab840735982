-- What the workers of `serve` do, side by side.
use Rattle.std.specs.Prelude.{◌≡◌, ◌⊎◌, ◌≤◌, ℕ, ◌+◌, length, All, IsErr, List, [], ◌∷◌}
use Rattle.std.specs.Prelude.{Result, Ok, Err}
use Rattle.scan_base.specs.declared.fault.Fault.{Fault}
use Rattle.flight_core.specs.Headline.{Pairwise}
use Rattle.version_log.specs.Log.{Log, IsLog, Begins}
use Rattle.version_cell.specs.Merges.{MergesAll}
use Rattle.flight_calls.specs.declared.setting.Options.{Options}
use Rattle.flight_core.specs.PlacedEntries.{Placed, placed}
use Rattle.shared_calls.specs.Sharing.{onward}
use Rattle.command_ends.specs.Network.{Accepting}
use Rattle.commands.specs.Serve.{Worker, ServesUpTo}

-- a worker that has ended: how many connections it drew, and what came of serving them
pub record Work (L : Type 0) : Type 0 where
  pub worker : Worker L
  pub drawn : ℕ
  pub result : Result (Unit {0}) Fault

-- the first result, or the second where the first is no fault
abbrev pub both : Result (Unit {0}) Fault → Result (Unit {0}) Fault → Result (Unit {0}) Fault
both (Ok done) second = second
both (Err fault) second = Err fault

-- the first fault of the works, if one has a fault
abbrev pub first_fault : {L : Type 0} → List (Work L) → Result (Unit {0}) Fault
first_fault [] = Ok tt
first_fault (work ∷ others) = both work.result (first_fault others)

-- how many connections all of them drew
abbrev pub drawn_by : {L : Type 0} → List (Work L) → ℕ
drawn_by [] = 0
drawn_by (work ∷ others) = work.drawn + drawn_by others

-- how many entries the connections of all of them made
abbrev pub made_by : {L : Type 0} → List (Work L) → ℕ
made_by [] = 0
made_by (work ∷ others) = length work.worker.seat.made + made_by others

-- the entries that the connections of each of them made, with their places in the log
abbrev pub made_by_each : {L : Type 0} → List (Work L) → List (List Placed)
made_by_each [] = []
made_by_each (work ∷ others) = work.worker.seat.made ∷ made_by_each others

-- so many connections were drawn; or fewer, where every worker ended by a fault
abbrev pub DrawsAll : {L : Type 0} → ℕ → List (Work L) → Type 0
DrawsAll most works =
    (drawn_by works ≡ most) ⊎ ((drawn_by works ≤ most) × All (λ work. IsErr work.result) works)

-- a worker served the connections that it drew, and all that its seat has then seen is of this
-- history
pub record IsPartOf {L : Type 0} (accepts : Accepting L) (options : Options) (history : Log)
    (old : Worker L) (new : Work L) : Type 0 where
  pub serves : ServesUpTo accepts onward options new.drawn new.result old new.worker
  pub within : Begins new.worker.seat.log history

-- These workers served side by side, each the connections that it drew, so many in all. All that
-- their seats have seen is of one history of accepted puts, with as many entries as their
-- connections made. It is made up of the entries of each worker, in their order, and of no others.
-- Each stands at the place where its step made it: so no two steps, of whatever workers, made the
-- entry of one place. The result is the first fault of a worker, if any.
pub record ServesSideBySide {L : Type 0} (accepts : Accepting L) (options : Options) (most : ℕ)
    (workers : List (Worker L)) (result : Result (Unit {0}) Fault) : Type 0 where
  pub history : Log
  pub log : IsLog history
  pub ends : List (Work L)
  pub served : Pairwise (IsPartOf accepts options history) workers ends
  pub made : length history ≡ made_by ends
  pub own : MergesAll (made_by_each ends) (placed 0 history)
  pub drawn : DrawsAll most ends
  pub ended : result ≡ first_fault ends
