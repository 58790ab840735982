-- The log: what was accepted, in order: puts, and expiries, each of which is a mark.
use Rattle.std.specs.Prelude.{◌≡◌, ℕ, ◌-◌, max, List, [], ◌∷◌, ◌++◌, length, Result, Ok}
use Rattle.scan_base.specs.declared.fault.Fault.{Fault}
use Rattle.table_versions.specs.Database.{Database, Put}
use Rattle.table_versions.specs.Database as puts

-- an entry of a log: a put, or the mark of an expiry of the versions below a number
pub data Entry : Type 0 where
  added : Put → Entry
  expired : (version : ℕ) → Entry

-- what was done to a catalog, in order
abbrev pub Log : Type 0
Log = List Entry

-- the puts of a log, in order: a mark is no put
abbrev pub puts_of : Log → List Put
puts_of [] = []
puts_of (added put ∷ log) = put ∷ puts_of log
puts_of (expired version ∷ log) = puts_of log

-- how many puts a log has: the number of its newest version
abbrev pub puts_in : Log → ℕ
puts_in log = length (puts_of log)

-- the number of the oldest version that is not expired: the greatest mark, or 0
abbrev pub floor_of : Log → ℕ
floor_of [] = 0
floor_of (added put ∷ log) = floor_of log
floor_of (expired version ∷ log) = max version (floor_of log)

-- the newest database of a log
abbrev pub database_of : Log → Database
database_of log = puts.database_after (puts_of log)

-- the database after the first n puts of a log
abbrev pub version : Log → ℕ → Database
version log n = puts.version_after (puts_of log) n

-- how many versions stand above the floor
abbrev pub above_floor : Log → ℕ
above_floor log = puts_in log - floor_of log

-- the database after a put that meets a log, or the first fault
abbrev pub after_log : Log → Put → Result Database Fault
after_log log put = puts.after (database_of log) (above_floor log) put

-- each put of a log was accepted by the log before it
abbrev pub IsLog : Log → Type 0
IsLog log = (before rest : Log) (put : Put) → log ≡ before ++ added put ∷ rest →
    after_log before put ≡ Ok (database_of (before ++ added put ∷ []))

-- a log goes on from another
abbrev pub Begins : Log → Log → Type 0
Begins log more = (rest : Log) × (more ≡ log ++ rest)
