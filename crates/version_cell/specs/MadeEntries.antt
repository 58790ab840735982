-- Inside: what was made through a seat, as the code has it.
use Rattle.std.specs.Prelude.{ℕ, ◌+◌, List, [], ◌∷◌, ◌++◌, Option, Some, None}
use Rattle.version_log.specs.Log.{Entry}
use Rattle.version_cell.specs.PlacedEntries.{Placed}

-- entries, in order, each with its place in the log, and how many times one was added
pub record MadeEntriesAt : Type 0 where
  pub entries : List Placed
  pub steps : ℕ

-- what was before, if anything was, and then the entry at its place
abbrev pub one_behind : {X : Type 0} → (X → MadeEntriesAt) → Option X → ℕ → Entry → MadeEntriesAt
one_behind f None place entry = record { entries = []; steps = 0 }
one_behind f (Some before) place entry =
    record { entries = (f before).entries ++ (place, entry) ∷ []; steps = (f before).steps + 1 }
