-- The versions of puts, one after another.
use Rattle.std.proofs.Common.{◌≡◌, ℕ, zero, suc, ◌+◌, ◌-◌, ◌^◌, ◌<◌, ◌≤◌, max, List, [], ◌∷◌, ◌++◌, length, map, take, drop, refl, sym, ap, subst, ◌∙◌, arith, length-append, Some, Ok}
use Rattle.std.specs.List.{slice_get}
use Rattle.std.proofs.lemmas.List.{map-append, length-drop, drop-drop, drop-map, drop-append-le}
use Rattle.table_versions.specs.Database.{Database, Put, with_put, with_all, database_after}
use Rattle.version_log.specs.Log as logs
use Rattle.version_log.specs.Log.{Log, added, expired, puts_of, puts_in, floor_of, above_floor, after_log}
use Rattle.table_versions.specs.StoredTables.{VersionAt, tables_of}
use Rattle.table_versions.proofs.Databases.{database_of-more}
use Rattle.version_log.proofs.Logs.{puts_of-added, puts_of-expired, floor_of-added, floor_of-expired}
use Rattle.flight_core.specs.Versions.{versions_from, versions_of, numbered, AreKept}
use Rattle.flight_info.proofs.Results.{same_some}

-- how many puts come after one more
one_more : (n m : ℕ) → (n + 1) + m ≡ n + suc m
one_more n m = omega arith

none_before : (n : ℕ) → 0 + n ≡ n
none_before n = omega arith

versions_from-more : (old : Database) (n : ℕ) (log : List Put) (put : Put)
    → versions_from old n (log ++ put ∷ []) ≡ versions_from old n log ++ (n + suc (length log), with_all old (log ++ put ∷ [])) ∷ []
versions_from-more old n [] put = refl
versions_from-more old n (p ∷ ps) put =
    let next = with_put old p in
    ap (λ l. (n + 1, next) ∷ l) (versions_from-more next (n + 1) ps put
    ∙ ap (λ m. versions_from next (n + 1) ps ++ (m, with_all next (ps ++ put ∷ [])) ∷ []) (one_more n (suc (length ps))))

versions_from-at : (old : Database) (n : ℕ) (log : List Put) (k : ℕ) → k < length log
    → slice_get (versions_from old n log) k ≡ Some (n + suc k, with_all old (take (suc k) log))
versions_from-at old n [] k lt = absurd (omega arith)
versions_from-at old n (p ∷ ps) zero lt = refl
versions_from-at old n (p ∷ ps) (suc k) lt =
    let next = with_put old p in
    versions_from-at next (n + 1) ps k (omega arith) ∙ ap (λ m. Some (m, with_all next (take (suc k) ps))) (one_more n (suc k))

versions_from-length : (old : Database) (n : ℕ) (log : List Put) → length (versions_from old n log) ≡ length log
versions_from-length old n [] = refl
versions_from-length old n (p ∷ ps) = ap suc (versions_from-length (with_put old p) (n + 1) ps)

versions_of-length : (log : List Put) → length (versions_of log) ≡ suc (length log)
unfolding versions_of
versions_of-length log = ap suc (versions_from-length [] 0 log)

versions_of-more : (log : List Put) (put : Put) → versions_of (log ++ put ∷ []) ≡ versions_of log ++ (suc (length log), database_after (log ++ put ∷ [])) ∷ []
unfolding versions_of
versions_of-more log put =
    ap (λ l. (0, []) ∷ l) (versions_from-more [] 0 log put
    ∙ ap (λ m. versions_from [] 0 log ++ (m, database_after (log ++ put ∷ [])) ∷ []) (none_before (suc (length log))))

versions_of-at : (log : List Put) (k : ℕ) → k ≤ length log → slice_get (versions_of log) k ≡ Some (k, database_after (take k log))
unfolding versions_of
versions_of-at log zero le = refl
versions_of-at log (suc k) le = versions_from-at [] 0 log k (omega (arith, le)) ∙ ap (λ m. Some (m, database_after (take (suc k) log))) (none_before (suc k))

slice_get-drop : {X : Type 0} (k i : ℕ) (xs : List X) → slice_get (drop k xs) i ≡ slice_get xs (k + i)
slice_get-drop zero i xs = let e : 0 + i ≡ i = omega arith in rw e refl
slice_get-drop (suc k) i [] = refl
slice_get-drop (suc k) i (x ∷ xs) = let e : suc k + i ≡ suc (k + i) = omega arith in rw e (slice_get-drop k i xs)

-- ---- versions of a log that are kept

-- version 0 is all that there is at first
pub first_kept : AreKept 0 ((0, []) ∷ []) []
unfolding versions_of
first_kept = record { floor = refl; versions = refl; there = omega arith; few = omega arith }

module _ (floor : ℕ) (kept : List (ℕ × Database)) (log : Log) (are : AreKept floor kept log) where
  pub kept_length : floor + length kept ≡ suc (puts_in log)
  kept_length =
      let long : length kept ≡ suc (puts_in log) - floor_of log = ap length are.versions ∙ length-drop (floor_of log) (versions_of (puts_of log)) ∙ ap (λ n. n - floor_of log) (versions_of-length (puts_of log)) in
      omega (arith, long, are.floor, are.there)

  pub kept_at : (n : ℕ) (x : ℕ × Database) → floor_of log ≤ n → n ≤ puts_in log → slice_get kept (n - floor) ≡ Some x → x ≡ (n, logs.version log n)
  kept_at n x low within at =
      let all = versions_of (puts_of log) in
      let place : floor_of log + (n - floor) ≡ n = omega (arith, low, are.floor) in
      same_some (sym at ∙ ap (λ l. slice_get l (n - floor)) are.versions ∙ slice_get-drop (floor_of log) (n - floor) all ∙ ap (slice_get all) place ∙ versions_of-at (puts_of log) n within)

  -- one version more
  pub kept_more : (put : Put) (new : Database) → after_log log put ≡ Ok new → puts_in log + 2 < 2 ^ 64 → AreKept floor (kept ++ (suc (puts_in log), new) ∷ []) (log ++ added put ∷ [])
  kept_more put new made room =
      let old = puts_of log in
      let low = floor_of log in
      let within : low ≤ length (versions_of old) = omega (arith, are.there, versions_of-length old) in
      let versions : kept ++ (suc (puts_in log), new) ∷ [] ≡ drop low (versions_of (old ++ put ∷ [])) =
      ap (λ l. l ++ (suc (puts_in log), new) ∷ []) are.versions ∙ ap (λ d. drop low (versions_of old) ++ (suc (puts_in log), d) ∷ []) (sym (database_of-more (above_floor log) old put new made))
      ∙ sym (drop-append-le low (versions_of old) ((suc (length old), database_after (old ++ put ∷ [])) ∷ []) within) ∙ ap (drop low) (sym (versions_of-more old put)) in
      let more : low ≤ length (old ++ put ∷ []) = omega (arith, are.there, length-append old (put ∷ [])) in
      let few : length (old ++ put ∷ []) + 1 < 2 ^ 64 = omega (arith, room, length-append old (put ∷ [])) in
      record {
        floor = are.floor ∙ sym (floor_of-added log put);
        versions = versions ∙ ap (λ n. drop n (versions_of (old ++ put ∷ []))) (sym (floor_of-added log put)) ∙ ap (λ ps. drop (floor_of (log ++ added put ∷ [])) (versions_of ps)) (sym (puts_of-added log put));
        there = rw (floor_of-added log put, puts_of-added log put) more;
        few = rw (puts_of-added log put) few;
      }

  -- those below a number are dropped
  pub kept_cut : (number : ℕ) → number ≤ puts_in log → AreKept (max floor number) (drop (number - floor) kept) (log ++ expired number ∷ [])
  kept_cut number within =
      let all = versions_of (puts_of log) in
      let lifted : floor_of (log ++ expired number ∷ []) ≡ max floor number = omega (arith, floor_of-expired log number, are.floor) in
      let place : floor_of log + (number - floor) ≡ max floor number = omega (arith, are.floor) in
      let versions : drop (number - floor) kept ≡ drop (max floor number) all = ap (drop (number - floor)) are.versions ∙ drop-drop (number - floor) (floor_of log) all ∙ ap (λ n. drop n all) place in
      let there : max floor number ≤ puts_in log = omega (arith, within, are.floor, are.there) in
      record {
        floor = sym lifted;
        versions = versions ∙ ap (λ n. drop n all) (sym lifted) ∙ ap (λ ps. drop (floor_of (log ++ expired number ∷ [])) (versions_of ps)) (sym (puts_of-expired log number));
        there = rw (lifted, puts_of-expired log number) there;
        few = rw (puts_of-expired log number) are.few;
      }

-- ---- as they are stored

-- one version more
pub stored_more : (floor : ℕ) (stored : List VersionAt) (log : Log) (put : Put) (made : VersionAt) → AreKept floor (map numbered stored) log
    → after_log log put ≡ Ok (tables_of made.catalog) → made.number ≡ puts_in log + 1 → puts_in log + 2 < 2 ^ 64
    → AreKept floor (map numbered (stored ++ made ∷ [])) (log ++ added put ∷ [])
stored_more floor stored log put made are accepts count room =
    let next : made.number ≡ suc (puts_in log) = omega (arith, count) in
    let is : numbered made ≡ (suc (puts_in log), tables_of made.catalog) = ap (λ (n : ℕ). (n, tables_of made.catalog)) next in
    let more : map numbered (stored ++ made ∷ []) ≡ map numbered stored ++ (suc (puts_in log), tables_of made.catalog) ∷ [] =
    map-append numbered stored (made ∷ []) ∙ ap (λ (v : ℕ × Database). map numbered stored ++ v ∷ []) is in
    subst (λ (kept : List (ℕ × Database)). AreKept floor kept (log ++ added put ∷ [])) (sym more) (kept_more floor (map numbered stored) log are put (tables_of made.catalog) accepts room)

-- those below a number are dropped
pub stored_cut : (floor : ℕ) (stored : List VersionAt) (log : Log) (number : ℕ) → AreKept floor (map numbered stored) log → number ≤ puts_in log
    → AreKept (max floor number) (map numbered (drop (number - floor) stored)) (log ++ expired number ∷ [])
stored_cut floor stored log number are within =
    subst (λ (kept : List (ℕ × Database)). AreKept (max floor number) kept (log ++ expired number ∷ [])) (drop-map numbered (number - floor) stored) (kept_cut floor (map numbered stored) log are number within)
