-- The log of a cell, in which each entry has the number of the seat through which it was made.
use Rattle.std.specs.Prelude.{◌≡◌, ◌⊎◌, ◌==◌, ◌+◌, ◌^◌, ℕ, List, [], ◌∷◌, ◌++◌, length, map, Option}
use Rattle.std.specs.Prelude.{Some, None, if◌then◌else◌}
use Rattle.std.specs.List.{enumerate_from}
use Rattle.version_log.specs.Log.{Entry, Log}
use Rattle.version_cell.specs.Merges.{Merges}
use Rattle.version_cell.specs.PlacedEntries.{Placed}

-- an entry, and the number of its seat
pub record SignedEntry : Type 0 where
  pub seat : ℕ
  pub entry : Entry

abbrev pub signed : ℕ → Entry → SignedEntry
signed seat entry = record { seat = seat; entry = entry }

-- the log itself
abbrev pub log_of : List SignedEntry → Log
log_of entries = map (λ (s : SignedEntry). s.entry) entries

-- the entries of one seat among these, each of which stands after its place
abbrev pub own_of : ℕ → List (ℕ × SignedEntry) → List Placed
own_of seat [] = []
own_of seat (at ∷ more) =
    if at.1.seat == seat then (at.0, at.1.entry) ∷ own_of seat more else own_of seat more

-- the entries of one seat, each with its place in the log
abbrev pub own : ℕ → List SignedEntry → List Placed
own seat entries = own_of seat (enumerate_from 0 entries)

-- entries go on from others
abbrev pub GoesOn : List SignedEntry → List SignedEntry → Type 0
GoesOn entries more = (rest : List SignedEntry) × (more ≡ entries ++ rest)

-- these are among those, in their order
abbrev pub IsAmong : {X : Type 0} → List X → List X → Type 0
IsAmong {X} some all = (rest : List X) × Merges some rest all

-- ---- a maker

-- the part of a seat through which entries are made: its number, what it has seen, what was made,
-- each entry with its place in the log, and its asks
pub record MakerAt : Type 0 where
  pub seat : ℕ
  pub seen : List SignedEntry
  pub made : List Placed
  pub asks : ℕ

abbrev pub maker_at : ℕ → List SignedEntry → List Placed → ℕ → MakerAt
maker_at seat seen made asks = record { seat = seat; seen = seen; made = made; asks = asks }

-- it has seen the longer of what it had seen and of what it was told, and has asked so often
pub record Learns (old : MakerAt) (log : List SignedEntry) (asks : ℕ) (new : MakerAt) : Type 0 where
  pub same : new ≡ maker_at old.seat new.seen old.made asks
  pub kept : GoesOn old.seen new.seen
  pub told : GoesOn log new.seen
  pub longer : (new.seen ≡ old.seen) ⊎ (new.seen ≡ log)

-- ---- seats that are done with

-- a seat that is done with: its number, and the entries that were made through it, each with its
-- place in the log
pub record Part : Type 0 where
  pub seat : ℕ
  pub made : List Placed

abbrev pub part_at : ℕ → List Placed → Part
part_at seat made = record { seat = seat; made = made }

-- the parts so far, the last one first, and how many times one was added
pub record PartsAt : Type 0 where
  pub parts : List Part
  pub steps : ℕ

-- one seat before what was before, if anything was
abbrev pub one_before : {X : Type 0} → (X → PartsAt) → Option X → ℕ → List Placed → PartsAt
one_before f None seat made = record { parts = []; steps = 0 }
one_before f (Some before) seat made =
    record { parts = part_at seat made ∷ (f before).parts; steps = (f before).steps + 1 }

-- the entries of each
abbrev pub made_by_each : List Part → List (List Placed)
made_by_each parts = map (λ (part : Part). part.made) parts

-- how many entries all of them made
abbrev pub made_by_all : List Part → ℕ
made_by_all [] = 0
made_by_all (part ∷ parts) = length part.made + made_by_all parts

-- their numbers
abbrev pub seats_of : List Part → List ℕ
seats_of parts = map (λ (part : Part). part.seat) parts

-- what was made through each is among the entries of its number
abbrev pub AreAmong : List Part → List SignedEntry → Type 0
AreAmong [] entries = Unit {0}
AreAmong (part ∷ parts) entries = IsAmong part.made (own part.seat entries) × AreAmong parts entries

-- the powers of two of numbers, added up
abbrev pub powers : List ℕ → ℕ
powers [] = 0
powers (number ∷ numbers) = 2 ^ number + powers numbers
