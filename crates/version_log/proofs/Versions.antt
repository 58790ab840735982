-- The versions of the puts of a log, and an index of those that are not expired.
use Rattle.std.proofs.Common.{◌≡◌, ℕ, zero, suc, ◌+◌, ◌-◌, ◌<◌, ◌≤◌, List, [], ◌∷◌, ◌++◌, length, map, take, drop, refl, sym, ap, ◌∙◌, arith, Some, IfOk, Result, Ok, Err}
use Rattle.std.specs.List.{slice_get}
use Rattle.std.specs.Option.{option_map}
use Rattle.std.proofs.lemmas.Grind.{common_steps}
use Rattle.std.proofs.lemmas.List.{map-append, length-map, length-drop, drop-drop, drop-map, drop-append-le}
use Rattle.std.proofs.lemmas.Option.{slice_get-map}
use Rattle.scan_base.specs.Limits.{most_commits}
use Rattle.table_versions.specs.Database.{Database, Put, with_put, with_all}
use Rattle.table_versions.specs.Database as puts
use Rattle.version_log.specs.Log.{Log, added, expired, puts_of, puts_in, floor_of, above_floor, database_of, after_log, version}
use Rattle.table_versions.specs.StoredTables.{CatalogAt, VersionAt, tables_of}
use Rattle.table_versions.proofs.Databases.{database_of-more}
use Rattle.version_log.proofs.Logs.{puts_of-added, puts_of-expired, floor_of-added, floor_of-expired}
use Rattle.version_log.specs.Index.{IndexAt, index_at}
use Rattle.version_log.specs.Versions.{versions_from, versions_of, IsIndexOf}
use Rattle.version_log.proofs.Dropping.{slice_get-drop}

length-from : (old : Database) (log : List Put) → length (versions_from old log) ≡ suc (length log)
length-from old [] = refl
length-from old (put ∷ puts) = ap suc (length-from (with_put old put) puts)

from-at : (old : Database) (log : List Put) (k : ℕ) → k ≤ length log → slice_get (versions_from old log) k ≡ Some (with_all old (take k log))
from-at old [] zero le = refl
from-at old [] (suc k) le = absurd (omega (arith, le))
from-at old (put ∷ puts) zero le = refl
from-at old (put ∷ puts) (suc k) le = from-at (with_put old put) puts k (omega (arith, le))

from-more : (old : Database) (log : List Put) (put : Put) →
    versions_from old (log ++ put ∷ []) ≡ versions_from old log ++ with_all old (log ++ put ∷ []) ∷ []
from-more old [] put = refl
from-more old (p ∷ ps) put = ap (λ l. old ∷ l) (from-more (with_put old p) ps put)

pub length-versions : (log : List Put) → length (versions_of log) ≡ suc (length log)
unfolding versions_of
length-versions log = length-from [] log

pub versions-at : (log : List Put) (k : ℕ) → k ≤ length log → slice_get (versions_of log) k ≡ Some (puts.version_after log k)
unfolding versions_of
versions-at log k le = from-at [] log k le

pub versions-more : (log : List Put) (put : Put) → versions_of (log ++ put ∷ []) ≡ versions_of log ++ puts.database_after (log ++ put ∷ []) ∷ []
unfolding versions_of
versions-more log put = from-more [] log put

same_some : {X : Type 0} {a b : X} → Some a ≡ Some b → a ≡ b
same_some e = cc

-- version 0 is all that there is at first
pub first_index : IsIndexOf (index_at 0 ([] ∷ [])) []
unfolding versions_of
first_index = record { floor = refl; tables = refl }

-- ---- an index of the versions of a log that are not expired
module _ (index : IndexAt) (log : Log) (kept : IsIndexOf index log) where
  count_of : length index.versions ≡ suc (puts_in log) - floor_of log
  count_of =
      sym (length-map index.versions tables_of) ∙ ap length kept.tables ∙ length-drop (floor_of log) (versions_of (puts_of log))
      ∙ ap (λ n. n - floor_of log) (length-versions (puts_of log))

  pub version_at : (k : ℕ) (catalog : CatalogAt) → floor_of log ≤ k → k ≤ puts_in log → slice_get index.versions (k - index.floor) ≡ Some catalog → tables_of catalog ≡ version log k
  version_at k catalog there within at =
      let all = versions_of (puts_of log) in
      let place : floor_of log + (k - index.floor) ≡ k = omega (arith, there, kept.floor) in
      same_some (ap (option_map tables_of) (sym at) ∙ sym (slice_get-map tables_of index.versions (k - index.floor))
      ∙ ap (λ l. slice_get l (k - index.floor)) kept.tables ∙ slice_get-drop (floor_of log) (k - index.floor) all
      ∙ ap (slice_get all) place ∙ versions-at (puts_of log) k within)

  -- the last one
  pub newest_number : (number : ℕ) → number + 1 ≡ index.floor + length index.versions → index.floor ≤ number → (number ≡ puts_in log) × (floor_of log ≤ puts_in log)
  newest_number number last there =
      let floor = kept.floor in
      let many = count_of in (
        omega (arith, last, there, floor, many),
        omega (arith, last, there, floor, many),
      )

  pub newest_tables : (number : ℕ) (catalog : CatalogAt) → number + 1 ≡ index.floor + length index.versions → index.floor ≤ number
      → slice_get index.versions (number - index.floor) ≡ Some catalog → tables_of catalog ≡ database_of log
  newest_tables number catalog last there at =
      let whole : take (length (puts_of log)) (puts_of log) ≡ puts_of log = grind (arith, common_steps) in
      let same = newest_number number last there in
      version_at number catalog (omega (arith, same.0, same.1)) (omega (arith, same.0)) at ∙ ap (λ n. version log n) same.0 ∙ ap puts.database_after whole

  -- a number from the floor on, up to the newest, is one of the index
  pub is_there : (k : ℕ) → floor_of log ≤ k → k ≤ puts_in log → (index.floor ≤ k) × (k < index.floor + length index.versions)
  is_there k there within =
      let floor = kept.floor in
      let many = count_of in (omega (arith, there, floor), omega (arith, there, within, floor, many))

  pub has_room : floor_of log ≤ puts_in log → above_floor log < most_commits → length index.versions ≤ most_commits
  has_room there few =
      let many = count_of in omega (arith, there, few, many)

  -- and it has the next number
  pub next_number : floor_of log ≤ puts_in log → index.floor + length index.versions ≡ puts_in log + 1
  next_number there =
      let floor = kept.floor in
      let many = count_of in omega (arith, there, floor, many)

  -- one more
  pub kept_more : (put : Put) (catalog : CatalogAt) → floor_of log ≤ puts_in log → after_log log put ≡ Ok (tables_of catalog)
      → IsIndexOf (index_at index.floor (index.versions ++ catalog ∷ [])) (log ++ added put ∷ [])
  kept_more put catalog there accepts =
      let old = puts_of log in
      let floor = floor_of log in
      let new : puts.database_after (old ++ put ∷ []) ≡ tables_of catalog = database_of-more (above_floor log) old put (tables_of catalog) accepts in
      let within : floor ≤ length (versions_of old) = omega (arith, there, length-versions old) in
      let tables : map tables_of (index.versions ++ catalog ∷ []) ≡ drop floor (versions_of (old ++ put ∷ [])) =
      map-append tables_of index.versions (catalog ∷ []) ∙ ap (λ l. l ++ tables_of catalog ∷ []) kept.tables ∙ ap (λ d. drop floor (versions_of old) ++ d ∷ []) (sym new)
      ∙ sym (drop-append-le floor (versions_of old) (puts.database_after (old ++ put ∷ []) ∷ []) within) ∙ ap (drop floor) (sym (versions-more old put)) in
      record {
        floor = kept.floor ∙ sym (floor_of-added log put);
        tables = tables ∙ ap (λ n. drop n (versions_of (old ++ put ∷ []))) (sym (floor_of-added log put)) ∙ ap (λ ps. drop (floor_of (log ++ added put ∷ [])) (versions_of ps)) (sym (puts_of-added log put));
      }

  -- those below a number are dropped
  pub kept_cut : (number : ℕ) → floor_of log ≤ number → IsIndexOf (index_at number (drop (number - index.floor) index.versions)) (log ++ expired number ∷ [])
  kept_cut number there =
      let floor = floor_of log in
      let all = versions_of (puts_of log) in
      let lifted : floor_of (log ++ expired number ∷ []) ≡ number = omega (arith, floor_of-expired log number, there) in
      let place : floor + (number - index.floor) ≡ number = omega (arith, there, kept.floor) in
      let tables : map tables_of (drop (number - index.floor) index.versions) ≡ drop number all =
      sym (drop-map tables_of (number - index.floor) index.versions) ∙ ap (drop (number - index.floor)) kept.tables ∙ drop-drop (number - index.floor) floor all
      ∙ ap (λ n. drop n all) place in
      record {
        floor = sym lifted;
        tables = tables ∙ ap (λ n. drop n all) (sym lifted) ∙ ap (λ ps. drop (floor_of (log ++ expired number ∷ [])) (versions_of ps)) (sym (puts_of-expired log number));
      }

  -- those below the floor were dropped before
  pub kept_so : (number : ℕ) → number ≤ index.floor → IsIndexOf index (log ++ expired number ∷ [])
  kept_so number low =
      let same : floor_of (log ++ expired number ∷ []) ≡ floor_of log = omega (arith, floor_of-expired log number, low, kept.floor) in
      let all = versions_of (puts_of log) in
      record {
        floor = kept.floor ∙ sym same;
        tables = kept.tables ∙ ap (λ n. drop n all) (sym same) ∙ ap (λ ps. drop (floor_of (log ++ expired number ∷ [])) (versions_of ps)) (sym (puts_of-expired log number));
      }

  pub version_found : {E : Type 0} (k : ℕ) (result : Result VersionAt E) → floor_of log ≤ k → k ≤ puts_in log → IfOk result (λ snapshot. slice_get index.versions (k - index.floor) ≡ Some snapshot.catalog)
      → IfOk result (λ snapshot. tables_of snapshot.catalog ≡ version log k)
  version_found k (Ok snapshot) there within at = version_at k snapshot.catalog there within at
  version_found k (Err fault) there within at = tt
