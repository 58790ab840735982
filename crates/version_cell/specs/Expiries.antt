-- What an expiry through a seat is answered.
use Rattle.std.specs.Prelude.{◌≡◌, ℕ, [], ◌∷◌, ◌++◌, length, Result, Ok, Err}
use Rattle.scan_base.specs.declared.fault.Fault.{Fault}
use Rattle.version_log.specs.Log.{Log, expired, Begins}
use Rattle.version_log.specs.Expiry.{IsExpired}
use Rattle.version_cell.specs.Seats.{Seat, MakesNone}

-- an accepted mark that met a log is the last entry that was made through the seat, at the place
-- after that log, and a refused one is none of them
abbrev pub CountsExpiry : Result ℕ Fault → Seat → Log → ℕ → Seat → Type 0
CountsExpiry (Ok floor) old log version new =
    new.made ≡ old.made ++ (length log, expired version) ∷ []
CountsExpiry (Err fault) old log version new = MakesNone old new

-- It met a log that goes on from all that the seat had seen, and the seat has then seen the log
-- after it, and no more.
pub record ExpiresBehind (result : Result ℕ Fault) (old : Seat) (version : ℕ)
    (new : Seat) : Type 0 where
  pub log : Log
  pub met : Begins old.log log
  pub answered : IsExpired result log version new.log
  pub counts : CountsExpiry result old log version new
