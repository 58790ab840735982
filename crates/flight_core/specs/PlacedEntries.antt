-- Entries of a log, each with its place in it.
use Rattle.std.specs.Prelude.{ℕ, List, map}
use Rattle.std.specs.List.{enumerate_from}
use Rattle.version_log.specs.Log.{Entry, Log}

-- an entry, with its place in the log
abbrev pub Placed : Type 0
Placed = ℕ × Entry

-- the entries of a log from this place on, each with its place
abbrev pub placed : ℕ → Log → List Placed
placed place log = enumerate_from place log

-- the entries without their places
abbrev pub log_in : List Placed → Log
log_in made = map (λ (one : Placed). one.1) made
