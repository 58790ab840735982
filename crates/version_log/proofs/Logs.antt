-- What is said of a log is said of its puts.
use Rattle.std.proofs.Common.{◌≡◌, ◌⊎◌, inl, inr, ℕ, max, [], ◌∷◌, ◌++◌, length, Ok, refl, sym, ap, ◌∙◌, arith, append-nil, length-append}
use Rattle.table_versions.specs.Database.{Database, Put, database_after}
use Rattle.version_log.specs.Log.{Entry, Log, added, expired, puts_of, above_floor, floor_of, database_of, after_log, IsLog, Begins}
use Rattle.table_versions.proofs.Databases.{database_of-more}

pub puts_of-append : (log rest : Log) → puts_of (log ++ rest) ≡ puts_of log ++ puts_of rest
puts_of-append [] rest = refl
puts_of-append (added put ∷ log) rest = ap (λ puts. put ∷ puts) (puts_of-append log rest)
puts_of-append (expired version ∷ log) rest = puts_of-append log rest

-- a log with one put more
pub puts_of-added : (log : Log) (put : Put) → puts_of (log ++ added put ∷ []) ≡ puts_of log ++ put ∷ []
puts_of-added log put = puts_of-append log (added put ∷ [])

-- a log with one mark more has the same puts
pub puts_of-expired : (log : Log) (version : ℕ) → puts_of (log ++ expired version ∷ []) ≡ puts_of log
puts_of-expired log version = puts_of-append log (expired version ∷ []) ∙ append-nil (puts_of log)

-- the puts of a log go on where the log goes on
pub begun_puts : (log more : Log) (begun : Begins log more) → puts_of more ≡ puts_of log ++ puts_of begun.0
begun_puts log more begun = ap puts_of begun.1 ∙ puts_of-append log begun.0

pub floor_of-append : (log rest : Log) → floor_of (log ++ rest) ≡ max (floor_of log) (floor_of rest)
floor_of-append [] rest = omega arith
floor_of-append (added put ∷ log) rest = floor_of-append log rest
floor_of-append (expired version ∷ log) rest = omega (arith, floor_of-append log rest)

-- a put leaves the floor
pub floor_of-added : (log : Log) (put : Put) → floor_of (log ++ added put ∷ []) ≡ floor_of log
floor_of-added log put = omega (arith, floor_of-append log (added put ∷ []))

-- a mark lifts it to its number, or leaves it
pub floor_of-expired : (log : Log) (version : ℕ) → floor_of (log ++ expired version ∷ []) ≡ max (floor_of log) version
floor_of-expired log version = omega (arith, floor_of-append log (expired version ∷ []))

-- an accepted put gives the log's database
pub database_of-added : (log : Log) (put : Put) (database : Database) → after_log log put ≡ Ok database → database_of (log ++ added put ∷ []) ≡ database
database_of-added log put database accepted =
    ap database_after (puts_of-added log put) ∙ database_of-more (above_floor log) (puts_of log) put database accepted

-- a put of a log with one entry more is that entry, or a put of the log
parted : (log before rest : Log) (last : Entry) (put : Put) → log ++ last ∷ [] ≡ before ++ added put ∷ rest
    → ((before ≡ log) × (last ≡ added put)) ⊎ ((fewer : Log) × (log ≡ before ++ added put ∷ fewer))
parted [] [] rest last put is = let e : last ≡ added put = cc in inl (refl, e)
parted [] (first ∷ before) rest last put is = absurd (omega (arith, ap length is, length-append before (added put ∷ rest)))
parted (one ∷ log) [] rest last put is = let e : one ∷ log ≡ added put ∷ log = cc in inr (log, e)
parted (one ∷ log) (first ∷ before) rest last put is = by (parted log before rest last put later)
  where
    later : log ++ last ∷ [] ≡ before ++ added put ∷ rest
    later = cc

    heads : one ≡ first
    heads = cc

    by : ((before ≡ log) × (last ≡ added put)) ⊎ ((fewer : Log) × (log ≡ before ++ added put ∷ fewer))
        → ((first ∷ before ≡ one ∷ log) × (last ≡ added put)) ⊎ ((fewer : Log) × (one ∷ log ≡ first ∷ before ++ added put ∷ fewer))
    by (inl (same, e)) = let whole : first ∷ before ≡ one ∷ log = rw (heads, same) refl in inl (whole, e)
    by (inr (fewer, same)) = let whole : one ∷ log ≡ first ∷ before ++ added put ∷ fewer = rw (heads, same) refl in inr (fewer, whole)

-- no entries are a log
pub is_log-none : IsLog []
is_log-none before rest put is = absurd (omega (arith, ap length is, length-append before (added put ∷ rest)))

-- an accepted put at the end of a log
pub is_log-added : (log : Log) (put : Put) (database : Database) → IsLog log → after_log log put ≡ Ok database → IsLog (log ++ added put ∷ [])
is_log-added log put database is accepted before rest one at = by (parted log before rest (added put) one at)
  where
    by : ((before ≡ log) × (added put ≡ added one)) ⊎ ((fewer : Log) × (log ≡ before ++ added one ∷ fewer))
        → after_log before one ≡ Ok (database_of (before ++ added one ∷ []))
    by (inl (same, e)) = let put_is : put ≡ one = cc in rw (same, ← put_is) (accepted ∙ ap (λ d. Ok d) (sym (database_of-added log put database accepted)))
    by (inr (fewer, there)) = is before fewer one there

-- a mark at its end
pub is_log-expired : (log : Log) (version : ℕ) → IsLog log → IsLog (log ++ expired version ∷ [])
is_log-expired log version is before rest one at = by (parted log before rest (expired version) one at)
  where
    by : ((before ≡ log) × (expired version ≡ added one)) ⊎ ((fewer : Log) × (log ≡ before ++ added one ∷ fewer))
        → after_log before one ≡ Ok (database_of (before ++ added one ∷ []))
    by (inl (same, e)) = cc
    by (inr (fewer, there)) = is before fewer one there
