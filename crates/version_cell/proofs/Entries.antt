-- Entries one by one, and logs of accepted puts.
use Rattle.std.proofs.Common.{◌≡◌, ◌+◌, ◌≤◌, false, true, List, [], ◌∷◌, ◌++◌, length, Option, Some, None, IsSome, IfSome, sym, subst, ap, ◌∙◌, arith, length-append}
use Rattle.version_log.specs.Log.{Entry, Log, added, expired, puts_of, puts_in, after_log, IsLog}
use Rattle.version_log.proofs.Logs.{puts_of-append, is_log-none, is_log-added, is_log-expired}
use Rattle.version_cell.specs.Rules.{read_or, Accepts}
use Rattle.version_cell.specs.SignedEntries.{SignedEntry, log_of}
use Rattle.version_cell.proofs.Accepting.{accepted_is}
use Rattle.version_cell.proofs.Logs.{log_of-length, log_of-more}

few_puts_in : (log : Log) → puts_in log ≤ length log
few_puts_in [] = omega arith
few_puts_in (added put ∷ log) = omega (arith, few_puts_in log)
few_puts_in (expired version ∷ log) = omega (arith, few_puts_in log)

-- a log has no more puts than entries
pub few_puts : (entries : List SignedEntry) → puts_in (log_of entries) ≤ length entries
few_puts entries = omega (arith, few_puts_in (log_of entries), log_of-length entries)

-- the puts of a log with one entry more
pub puts_in_more : (entries : List SignedEntry) (s : SignedEntry) → puts_in (log_of (entries ++ s ∷ [])) ≡ puts_in (log_of entries) + puts_in (s.entry ∷ [])
puts_in_more entries s =
    let log = log_of entries in
    ap puts_in (log_of-more entries s) ∙ (ap length (puts_of-append log (s.entry ∷ [])) ∙ length-append (puts_of log) (puts_of (s.entry ∷ [])))

-- an accepted entry after a log of accepted puts
pub is_log_behind : (log : Log) (e : Entry) → IsLog log → Accepts log e → IsLog (log ++ e ∷ [])
is_log_behind log (added put) is accepts =
    let new = accepted_is (after_log log put) accepts in
    is_log-added log put new.0 is new.1
is_log_behind log (expired version) is accepts = is_log-expired log version is

-- no entries are such a log
pub nothing_is_log : (entries : List SignedEntry) → entries ≡ [] → IsLog (log_of entries)
nothing_is_log entries none = subst (λ (es : List SignedEntry). IsLog (log_of es)) (sym none) is_log-none

-- what is read of a value that is there, and is such a log
pub read_is_log : {X : Type 0} (seen_of : X → List SignedEntry) (P : X → Type 0) (found : Option X) → IsSome found → IfSome found (λ x. P x × IsLog (log_of (seen_of x)))
    → IsLog (log_of (read_or [] seen_of found))
read_is_log seen_of P (Some x) some both = both.1
read_is_log seen_of P None some both = let no : false ≡ true = some in cc
