-- A log, and the same with the seat of each entry.
use Rattle.std.proofs.Common.{Bool, true, false, ◌≡◌, ◌⊎◌, inl, inr, ℕ, ◌≤◌, ◌+◌, List, [], ◌∷◌, ◌++◌, length, ap, ◌∙◌, arith, append-nil, length-append}
use Rattle.std.specs.Prelude.{MatchBool}
use Rattle.std.proofs.lemmas.List.{length-map, map-append}
use Rattle.version_log.specs.Log.{Begins}
use Rattle.version_cell.specs.SignedEntries.{SignedEntry, MakerAt, log_of, maker_at, GoesOn, Learns}

pub log_of-more : (entries : List SignedEntry) (s : SignedEntry) → log_of (entries ++ s ∷ []) ≡ log_of entries ++ s.entry ∷ []
log_of-more entries s = map-append (λ (s : SignedEntry). s.entry) entries (s ∷ [])

pub log_of-length : (entries : List SignedEntry) → length (log_of entries) ≡ length entries
log_of-length entries = length-map entries (λ (s : SignedEntry). s.entry)

-- it goes on without the seats too
pub begins_of : (entries more : List SignedEntry) → GoesOn entries more → Begins (log_of entries) (log_of more)
begins_of entries more (rest, is) = (log_of rest, ap log_of is ∙ map-append (λ (s : SignedEntry). s.entry) entries rest)

no_rest : (log rest new : List SignedEntry) → new ≡ log ++ rest → length rest ≤ 0 → new ≡ log
no_rest log [] new is few = is ∙ append-nil log
no_rest log (s ∷ rest) new is few = absurd (omega (arith, few))

pub either_begins_of : (b : Bool) (entries more : List SignedEntry) → MatchBool b (GoesOn entries more) (GoesOn more entries)
    → MatchBool b (Begins (log_of entries) (log_of more)) (Begins (log_of more) (log_of entries))
either_begins_of true entries more on = begins_of entries more on
either_begins_of false entries more on = begins_of more entries on

-- who had seen no more than a log, and learns it, has seen that log
pub learns_all : (old log new : List SignedEntry) → Begins (log_of old) (log_of log) → GoesOn log new → (new ≡ old) ⊎ (new ≡ log) → new ≡ log
learns_all old log new within (rest, is) (inr same) = same
learns_all old log new within (rest, is) (inl same) = no_rest log rest new is (omega (
  arith,
  ap length is,
  ap length same,
  length-append log rest,
  ap length within.1,
  length-append (log_of old) within.0,
  log_of-length old,
  log_of-length log,
))

-- so who asks for it has seen all of it
pub caught_up : (old new : MakerAt) (log : List SignedEntry) → Begins (log_of old.seen) (log_of log) → Learns old log (old.asks + 1) new
    → new ≡ maker_at old.seat log old.made (old.asks + 1)
caught_up old new log within learns =
    learns.same ∙ ap (λ seen. maker_at old.seat seen old.made (old.asks + 1)) (learns_all old.seen log new.seen within learns.told learns.longer)

-- a count that goes on with a log
pub longer_by_one : (log more : List SignedEntry) (s : SignedEntry) (old new : ℕ) → more ≡ log ++ s ∷ [] → length log ≡ old → new ≡ old + 1 → length more ≡ new
longer_by_one log more s old new is was next = omega (arith, ap length is, length-append log (s ∷ []), was, next)
