-- What a contract sees of a seat, and what its calls do to it.
use Rattle.std.specs.Prelude.{◌≡◌, ◌⊎◌, ℕ, ◌+◌, List, [], ◌∷◌}
use Rattle.version_log.specs.Log.{Log}
use Rattle.version_cell.specs.PlacedEntries.{Placed}

-- the number of the seat, the log that it has seen or was told of, the log that it entered last,
-- how often it entered the cell, the entries that were made through it, in order, each with its
-- place in the log, and how often it asked the putter
pub record Seat : Type 0 where
  pub number : ℕ
  pub log : Log
  pub entered : Log
  pub enters : ℕ
  pub made : List Placed
  pub asks : ℕ

-- a seat that never asked
abbrev pub seat : ℕ → Log → Log → ℕ → List Placed → Seat
seat number log entered enters made =
    record { number = number; log = log; entered = entered; enters = enters; made = made; asks = 0 }

-- seats have the numbers from one on, each the next
abbrev pub IsNumbered : ℕ → List Seat → Type 0
IsNumbered first [] = Unit {0}
IsNumbered first (one ∷ others) = (one.number ≡ first) × IsNumbered (first + 1) others

-- one enter: the seat has seen the log so entered
abbrev pub EntersOnce : Seat → Seat → Type 0
EntersOnce old new = (new.enters ≡ old.enters + 1) × (new.entered ≡ new.log)

-- one enter, or none
abbrev pub MayEnter : Seat → Seat → Type 0
MayEnter old new = (new.enters ≡ old.enters) ⊎ (new.enters ≡ old.enters + 1)

-- the seat asks once
abbrev pub AsksOnce : Seat → Seat → Type 0
AsksOnce old new = new.asks ≡ old.asks + 1

-- the seat does not ask
abbrev pub AsksNone : Seat → Seat → Type 0
AsksNone old new = new.asks ≡ old.asks

-- no entry is made through the seat
abbrev pub MakesNone : Seat → Seat → Type 0
MakesNone old new = new.made ≡ old.made

-- Seats that are done with: a log that goes on from all that they had seen, how many they are, how
-- many entries were made through them, and which were made through each, with their places in the
-- log, the last seat first.
pub record GatheredSeatsAt : Type 0 where
  pub log : Log
  pub seats : ℕ
  pub made : ℕ
  pub each : List (List Placed)

abbrev pub gathered_seats_at : Log → ℕ → ℕ → List (List Placed) → GatheredSeatsAt
gathered_seats_at log seats made each =
    record { log = log; seats = seats; made = made; each = each }
