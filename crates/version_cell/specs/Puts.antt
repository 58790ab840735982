-- What a put is answered.
use Rattle.std.specs.Prelude.{◌≡◌, ◌≢◌, [], ◌∷◌, ◌++◌, length, IsOk, Result, Ok, Err}
use Rattle.scan_base.specs.declared.fault.Fault.{Fault}
use Rattle.scan_base.specs.declared.fault.Fault.TheVariants.{OutOfMemory}
use Rattle.scan_base.specs.Reading.{RefusesFirst}
use Rattle.table_versions.specs.Database.{Put}
use Rattle.version_log.specs.Log.{Log, added, after_log, Begins}
use Rattle.version_cell.specs.Seats.{Seat, MakesNone}

-- A put that meets a log, with the log after it: an accepted one stands last. A refused one changes
-- nothing, and its fault is the first one, or memory was refused.
abbrev pub IsAnswered : {X : Type 0} → Result X Fault → Log → Put → Log → Type 0
IsAnswered (Ok receipt) log put next = (next ≡ log ++ added put ∷ []) × IsOk (after_log log put)
IsAnswered (Err fault) log put next =
    (next ≡ log) × (fault ≢ OutOfMemory → after_log log put ≡ Err fault)

-- an accepted put that met a log is the last entry that was made through the seat, at the place
-- after that log, and a refused one is none of them
abbrev pub CountsPut : {X : Type 0} → Result X Fault → Seat → Log → Put → Seat → Type 0
CountsPut (Ok done) old log put new = new.made ≡ old.made ++ (length log, added put) ∷ []
CountsPut (Err fault) old log put new = MakesNone old new

-- A put of a seat: it met a log that goes on from all that the seat had seen, and the seat has then
-- seen the log after it, and no more.
pub record PutsBehind {X : Type 0} (result : Result X Fault) (old : Seat) (put : Put)
    (new : Seat) : Type 0 where
  pub log : Log
  pub met : Begins old.log log
  pub answered : IsAnswered result log put new.log
  pub first : RefusesFirst result (after_log log put)
  pub counts : CountsPut result old log put new
