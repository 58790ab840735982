-- Versions in a row, of which the first are dropped, or which are one more.
use Rattle.std.proofs.Common.{◌≡◌, ℕ, zero, suc, ◌+◌, ◌-◌, ◌<◌, ◌≤◌, List, [], ◌∷◌, ◌++◌, length, drop, refl, sym, ap, ◌∙◌, arith, slice_get, length-append}
use Rattle.std.proofs.lemmas.List.{length-drop}
use Rattle.std.proofs.Math.Seq.{drop-append-add}
use Rattle.scan_base.specs.Limits.{most_commits}
use Rattle.shared_pages.proofs.Lists.{slice_get-append_right}
use Rattle.table_versions.specs.StoredTables.{CatalogAt, VersionAt}
use Rattle.version_log.specs.Index.{index_at, IsNewest}

pub slice_get-drop : {X : Type 0} (k i : ℕ) (xs : List X) → slice_get (drop k xs) i ≡ slice_get xs (k + i)
slice_get-drop zero i xs = let e : 0 + i ≡ i = omega arith in rw e refl
slice_get-drop (suc k) i [] = refl
slice_get-drop (suc k) i (x ∷ xs) = let e : suc k + i ≡ suc (k + i) = omega arith in rw e (slice_get-drop k i xs)

pub rest_of_second : {X : Type 0} (place n : ℕ) (xs ys : List X) → place ≡ length xs + n → drop n ys ≡ drop place (xs ++ ys)
rest_of_second place n xs ys is = rw is (sym (drop-append-add xs ys n))

-- the newest version is still there
pub newest_kept : (floor next : ℕ) (versions : List CatalogAt) (newest : VersionAt) → floor ≤ next → next < floor + length versions
    → IsNewest (index_at floor versions) newest → IsNewest (index_at next (drop (next - floor) versions)) newest
newest_kept floor next versions newest le lt is =
    let was : newest.number + 1 ≡ floor + length versions = is.last in
    let last : newest.number + 1 ≡ next + length (drop (next - floor) versions) = omega (arith, was, length-drop (next - floor) versions, le, lt) in
    let kept : next ≤ newest.number = omega (arith, was, lt) in
    let place : (next - floor) + (newest.number - next) ≡ newest.number - floor = omega (arith, kept, le) in record {
      last = last;
      kept = kept;
      tables = slice_get-drop (next - floor) (newest.number - next) versions ∙ ap (slice_get versions) place ∙ is.tables;
      few = omega (arith, is.few, length-drop (next - floor) versions);
    }

-- a version that comes after is the newest
pub newest_added : (floor : ℕ) (versions : List CatalogAt) (newest next : VersionAt) → length versions ≤ most_commits
    → next.number ≡ newest.number + 1 → IsNewest (index_at floor versions) newest → IsNewest (index_at floor (versions ++ next.catalog ∷ [])) next
newest_added floor versions newest next room number is =
    let was : newest.number + 1 ≡ floor + length versions = is.last in
    let low : floor ≤ newest.number = is.kept in
    let last : next.number + 1 ≡ floor + length (versions ++ next.catalog ∷ []) = omega (arith, was, number, length-append versions (next.catalog ∷ [])) in
    let kept : floor ≤ next.number = omega (arith, low, number) in
    let few : length (versions ++ next.catalog ∷ []) ≤ most_commits + 1 = omega (arith, room, length-append versions (next.catalog ∷ [])) in
    let place : next.number - floor ≡ length versions + 0 = omega (arith, was, low, number) in record {
      last = last;
      kept = kept;
      tables = slice_get-append_right versions (next.catalog ∷ []) 0 (next.number - floor) place;
      few = few;
    }
