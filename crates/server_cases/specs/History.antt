-- Inside: what the listeners of a server were shown.
use Rattle.std.specs.Prelude.{◌≡◌, ℕ, ◌+◌, List, [], ◌∷◌, ◌++◌, Option, Some, None}
use Rattle.version_cell.specs.Rests.{RestAt}
use Rattle.version_cell.specs.SignedEntries.{SignedEntry, own, GoesOn}
use Rattle.flight_calls.specs.declared.setting.Options.{Options}
use Rattle.commands.specs.ShownSeat.{IsNewSeat}

-- the longest log that was shown, and the seats as they were shown, in order
pub record HistoryAt : Type 0 where
  pub log : List SignedEntry
  pub shown : List RestAt

-- All that these seats have seen is of this one log, and what was made through each is just what
-- the log that it saw has of it.
abbrev pub SawOne : List SignedEntry → List RestAt → Type 0
SawOne log [] = Unit {0}
SawOne log (seat ∷ shown) =
    GoesOn seat.log log × (seat.made ≡ own seat.seat seat.log) × SawOne log shown

-- a seat was shown last as it is kept; where none is kept, a new one was not shown yet
abbrev pub IsListenerRecord : Option RestAt → RestAt → Type 0
IsListenerRecord None seat = IsNewSeat seat
IsListenerRecord (Some kept) seat = seat ≡ kept

-- how calls of these cases are answered
abbrev pub case_options : Options
case_options = record { parts = 2; workers = 1; keep = 0 }

-- ---- inside: what contracts alone see, as the code has it

-- seats in order, and how often one was added
pub record ShownAt : Type 0 where
  pub seats : List RestAt
  pub steps : ℕ

-- what was before, if anything was, and then the last one, if there is one
abbrev pub seats_of : {X Y : Type 0} → (X → ShownAt) → (Y → RestAt) → Option X → Option Y → ShownAt
seats_of f g None last = record { seats = []; steps = 0 }
seats_of f g (Some before) None = record { seats = (f before).seats; steps = (f before).steps + 1 }
seats_of f g (Some before) (Some last) =
    record { seats = (f before).seats ++ g last ∷ []; steps = (f before).steps + 1 }

-- the log of a seat, if there is one
abbrev pub log_in : Option RestAt → List SignedEntry
log_in None = []
log_in (Some seat) = seat.log
