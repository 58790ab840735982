-- The pairs of a left batch are those of one left row after another.
use Rattle.std.proofs.Common.{◌≡◌, ◌≤◌, ◌<◌, ◌+◌, ◌-◌, ◌==◌, ℕ, zero, suc, Bool, true, false, List, [], ◌++◌, length, map, drop, if◌then◌else◌, inl, inr, refl, sym, ap, ◌∙◌, arith, append_assoc}
use Rattle.std.specs.List.{filter, flat_map, range_with_len}
use Rattle.std.proofs.Math.ListN.{drop_of_length-le}
use Rattle.std.proofs.lemmas.Bool.{eq-eqb}
use Rattle.std.proofs.lemmas.Bool.Decides.{eqb_tells}
use Rattle.hash_join.specs.declared.pair.Pair.{Pair}
use Rattle.hash_join.specs.declared.search.Search.{Search}
use Rattle.hash_join.specs.Pairs.{pairs_of}
use Rattle.hash_join.specs.Walks.{joins_at, pair_at, pairs_past, IsWalk}
use Rattle.hash_join.specs.Searches.{build_of, ahead_of, probe_at, walk_at, IsSearch}
use Rattle.hash_join.specs.declared.build.Probe.{Probe}

-- the pairs that are found, and those that are still to be found, are all
pub record Searches (search : Search) (probe : Probe) (made whole : List Pair)
    (most : ℕ) : Type 0 where
  pub all : made ++ ahead_of search probe ≡ whole
  pub few : length made ≤ most

module _ (pairs : ℕ → ℕ → List Pair) where
  -- rows after the left one look from the first right row on
  later : (n a left from : ℕ) → left < a →
      flat_map (λ row. pairs row (if row == left then from else 0)) (range_with_len a n) ≡ flat_map (λ row. pairs row 0) (range_with_len a n)
  later zero a left from h = refl
  later (suc n) a left from h =
      let other : (a == left) ≡ false = elim (eqb_tells a left) [ inl same ↦ absurd (omega (arith, same.1)) | inr apart ↦ apart.0 ] in
      rw (other, later n (a + 1) left from (omega arith)) refl

  from_none : (b : Bool) → ◌≡◌ {A = ℕ} (if b then 0 else 0) 0
  from_none true = refl
  from_none false = refl

  -- all rows look from the first right row on
  anew : (n a left : ℕ) → flat_map (λ row. pairs row (if row == left then 0 else 0)) (range_with_len a n) ≡ flat_map (λ row. pairs row 0) (range_with_len a n)
  anew zero a left = refl
  anew (suc n) a left = rw (from_none (a == left), anew n (a + 1) left) refl

  -- the first left row by itself
  first_left : (rows left from : ℕ) → left < rows →
      flat_map (λ row. pairs row (if row == left then from else 0)) (range_with_len left (rows - left))
      ≡ pairs left from ++ flat_map (λ row. pairs row (if row == left + 1 then 0 else 0)) (range_with_len (left + 1) (rows - (left + 1)))
  first_left rows left from h =
      let e : rows - left ≡ suc (rows - (left + 1)) = omega arith in
      let here : (left == left) ≡ true = eq-eqb left left refl in
      rw (e, here) (ap (λ rest. pairs left from ++ rest)
      (later (rows - (left + 1)) (left + 1) left from (omega arith) ∙ sym (anew (rows - (left + 1)) (left + 1) (left + 1))))

module _ (search : Search) (is : IsSearch search) where
  -- a left row can walk
  pub can_walk : (row : ℕ) → row < search.left.batch.now.rows → IsWalk (walk_at search row)
  can_walk row h = record {
    whole = is.built.whole;
    linked = is.built.linked;
    repeats = is.built.repeats;
    left = record { row = h; columns = is.columns };
    alike = is.alike;
    small = omega (arith, is.small);
    few = is.small;
  }

  past_is : (row from : ℕ) → pairs_past (walk_at search row) from ≡ pairs_of (build_of search.rights.now) search.left.batch.now search.left.key.now row from
  past_is row from = ap (λ (places : List (ℕ × ℕ)). map (pair_at (walk_at search row)) (filter (joins_at (walk_at search row)) (drop from places))) is.built.whole.places

  -- the pairs of one left row, and of those after it
  ahead_first : (row from : ℕ) → row < search.left.batch.now.rows →
      ahead_of search (probe_at row from) ≡ pairs_past (walk_at search row) from ++ ahead_of search (probe_at (row + 1) 0)
  ahead_first row from h =
      first_left (pairs_of (build_of search.rights.now) search.left.batch.now search.left.key.now) search.left.batch.now.rows row from h
      ∙ ap (λ first. first ++ ahead_of search (probe_at (row + 1) 0)) (sym (past_is row from))

  -- rows that join nothing leave what is ahead as it is
  passed_over : (n row : ℕ) → row + n ≤ search.left.batch.now.rows → ((other : ℕ) → row ≤ other → other < row + n → pairs_past (walk_at search other) 0 ≡ []) →
      ahead_of search (probe_at row 0) ≡ ahead_of search (probe_at (row + n) 0)
  passed_over zero row le none = let e : row + zero ≡ row = omega arith in rw e refl
  passed_over (suc n) row le none =
      let nothing : pairs_past (walk_at search row) 0 ≡ [] = none row (omega arith) (omega arith) in
      let e : row + 1 + n ≡ row + suc n = omega arith in
      ahead_first row 0 (omega (arith, le)) ∙ ap (λ first. first ++ ahead_of search (probe_at (row + 1) 0)) nothing
      ∙ passed_over n (row + 1) (omega (arith, le)) (λ other h l. none other (omega (arith, h)) (omega (arith, l)))
      ∙ ap (λ next. ahead_of search (probe_at next 0)) e

  pub skipped : (row next : ℕ) → row ≤ next → next ≤ search.left.batch.now.rows → ((other : ℕ) → row ≤ other → other < next → pairs_past (walk_at search other) 0 ≡ []) →
      ahead_of search (probe_at row 0) ≡ ahead_of search (probe_at next 0)
  skipped row next le within none =
      let e : row + (next - row) ≡ next = omega (arith, le) in
      passed_over (next - row) row (omega (arith, e, within)) (λ other h l. none other h (omega (arith, l, e)))
      ∙ ap (λ at. ahead_of search (probe_at at 0)) e

  module _ (row from stop most : ℕ) (made more whole : List Pair) (h : row < search.left.batch.now.rows)
      (had : Searches search (probe_at row from) made whole most)
      (walked : more ++ pairs_past (walk_at search row) stop ≡ made ++ pairs_past (walk_at search row) from) where
    -- a walk that stops before the last right row
    pub stopped : more ++ ahead_of search (probe_at row stop) ≡ whole
    stopped =
        let rest = ahead_of search (probe_at (row + 1) 0) in
        ap (λ ahead. more ++ ahead) (ahead_first row stop h)
        ∙ sym (append_assoc more (pairs_past (walk_at search row) stop) rest)
        ∙ ap (λ some. some ++ rest) walked
        ∙ append_assoc made (pairs_past (walk_at search row) from) rest
        ∙ ap (λ ahead. made ++ ahead) (sym (ahead_first row from h))
        ∙ had.all

    -- a walk to the end
    pub passed : length search.rights.now.places.items ≤ stop → more ++ ahead_of search (probe_at (row + 1) 0) ≡ whole
    passed past =
        let rest = ahead_of search (probe_at (row + 1) 0) in
        let none : pairs_past (walk_at search row) stop ≡ [] =
        ap (λ (places : List (ℕ × ℕ)). map (pair_at (walk_at search row)) (filter (joins_at (walk_at search row)) places))
        (drop_of_length-le search.rights.now.places.items past) in
        ap (λ ahead. more ++ ahead) (sym (ap (λ first. first ++ rest) none) ∙ sym (ahead_first row stop h)) ∙ stopped
