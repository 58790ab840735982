-- Rows of a piece that pass, with the heads of their chains, have all of its pairs.
use Rattle.std.proofs.Common.{◌≡◌, ◌≤◌, ◌<◌, ◌+◌, ◌-◌, ℕ, zero, suc, Bool, true, false, List, [], ◌∷◌, ◌++◌, All, length, map, drop, get_or, cond, inl, inr, refl, sym, ap, subst, ◌∙◌, arith}
use Rattle.std.specs.List.{filter, range_with_len}
use Rattle.std.proofs.lemmas.Bool.{cases_lt}
use Rattle.std.proofs.lemmas.List.{drop_more}
use Rattle.bitmap.proofs.Masks.{range-append}
use Rattle.std.proofs.lemmas.List.Elements.{filter-append, All-nil, All-cons, All-filter}
use Rattle.hash_join.specs.declared.build.Probe.{Probe}
use Rattle.hash_join.specs.declared.pair.Pair.{Pair}
use Rattle.hash_join.specs.declared.left_pieces.Start.{Start}
use Rattle.hash_join.specs.declared.search.Search.{Search}
use Rattle.hash_join.specs.Walks.{pairs_past}
use Rattle.hash_join.specs.Searches.{ahead_of, first_left, probe_at, start_at, walk_at, AreHeads, AreStarts, IsSearch, IsStart, Passes}
use Rattle.hash_join.proofs.Searching.{Searches, can_walk, passed, skipped, stopped}
use Rattle.hash_join.proofs.Walking.{lead_same}

module _ (passes : ℕ → Bool) where
  -- the rows of two parts that pass, one part after the other
  pub kept_joined : (from at n : ℕ) → from ≤ at → filter passes (range_with_len from (at + n - from)) ≡ filter passes (range_with_len from (at - from)) ++ filter passes (range_with_len at n)
  kept_joined from at n le =
      let e : at + n - from ≡ at - from + n = omega (arith, le) in
      let f : from + (at - from) ≡ at = omega (arith, le) in
      ap (λ (k : ℕ). filter passes (range_with_len from k)) e
      ∙ ap (filter passes) (range-append from (at - from) n ∙ ap (λ (b : ℕ). range_with_len from (at - from) ++ range_with_len b n) f)
      ∙ filter-append passes (range_with_len from (at - from)) (range_with_len at n)

  all_below : (first n end : ℕ) → first + n ≤ end → All (λ (row : ℕ). row < end) (range_with_len first n)
  all_below first zero end h = All-nil (λ (row : ℕ). row < end)
  all_below first (suc n) end h =
      All-cons (λ (row : ℕ). row < end) first (range_with_len (first + 1) n) (omega (arith, h)) (all_below (first + 1) n end (omega (arith, h)))

  -- the rows that are kept are below the end
  pub kept_below : (first n end : ℕ) → first + n ≤ end → All (λ (row : ℕ). row < end) (filter passes (range_with_len first n))
  kept_below first n end h = All-filter passes (λ (row : ℕ). row < end) (range_with_len first n) (all_below first n end h)

-- these are all rows from one up to another that may join
pub record Begins (search : Search) (own : Bool) (from to : ℕ) (starts : List Start) : Type 0 where
  pub starts_are : AreStarts search own to starts
  pub after : from ≤ first_left to starts
  pub within : first_left to starts ≤ to
  pub none : (row : ℕ) → from ≤ row → row < first_left to starts → pairs_past (walk_at search row) 0 ≡ []

module _ (search : Search) (passes : ℕ → Bool) (head : ℕ → ℕ) (own : Bool) (sound : Passes search passes) (heads : AreHeads search passes head own) where
  -- the rows that pass are
  pub begins : (n from to : ℕ) → from + n ≡ to → to ≤ search.left.batch.now.rows → Begins search own from to (map (start_at head) (filter passes (range_with_len from n)))
  begins zero from to e le =
      let same : from ≤ to = omega (arith, e) in
      let end : to ≤ to = omega arith in
      record {
        starts_are = tt;
        after = same;
        within = end;
        none = λ row h l. let lt : row < to = l in absurd (omega (arith, h, lt, e));
      }
  begins (suc n) from to e le = by (passes from) refl (begins n (from + 1) to (omega (arith, e)) le)
    where
      xs : List ℕ
      xs = filter passes (range_with_len (from + 1) n)

      low : from < search.left.batch.now.rows
      low = omega (arith, e, le)

      by : (b : Bool) → passes from ≡ b → Begins search own (from + 1) to (map (start_at head) xs) →
          Begins search own from to (map (start_at head) (filter passes (from ∷ range_with_len (from + 1) n)))
      by true pass rest =
          let here : from ≤ from = omega arith in
          let there : from ≤ to = omega (arith, e) in
          let next : from < first_left to (map (start_at head) xs) = omega (arith, rest.after) in
          let last : first_left to (map (start_at head) xs) ≤ search.left.batch.now.rows = omega (arith, rest.within, le) in
          let start : IsStart search own (first_left to (map (start_at head) xs)) (start_at head from) = record {
            before = next;
            within = last;
            none = λ row h l. let more : from < row = h in rest.none row (omega (arith, more)) l;
            head = heads from low pass;
          } in
          subst (λ (b : Bool). Begins search own from to (map (start_at head) (cond b (from ∷ xs) xs))) (sym pass) (record {
            starts_are = (start, rest.starts_are);
            after = here;
            within = there;
            none = λ row h l. let less : row < from = l in absurd (omega (arith, h, less));
          })
      by false pass rest =
          let first : from ≤ first_left to (map (start_at head) xs) = omega (arith, rest.after) in
          subst (λ (b : Bool). Begins search own from to (map (start_at head) (cond b (from ∷ xs) xs))) (sym pass) (record {
            starts_are = rest.starts_are;
            after = first;
            within = rest.within;
            none = λ row h l. elim (cases_lt from row) [
              | inl lt ↦ rest.none row (omega (arith, lt)) l
              | inr ge ↦ let same : row ≡ from = omega (arith, h, ge) in rw same (sound from 0 low pass)
            ];
          })

  -- the rows that were kept are
  pub piece_begins : (from to : ℕ) (kept : List ℕ) (starts : List Start) → from ≤ to → to ≤ search.left.batch.now.rows →
      kept ≡ filter passes (range_with_len from (to - from)) → starts ≡ map (start_at head) kept → Begins search own from to starts
  piece_begins from to kept starts le within kept_are starts_are =
      subst (Begins search own from to) (sym (starts_are ∙ ap (map (start_at head)) kept_are)) (begins (to - from) from to (omega (arith, le)) within)

-- a row of a piece, and those after it
pub record Next (search : Search) (own : Bool) (to : ℕ) (starts : List Start) (number : ℕ) (start : Start) : Type 0 where
  pub first : first_left to (drop number starts) ≡ start.left
  pub here : IsStart search own (first_left to (drop (number + 1) starts)) start
  pub later : AreStarts search own to (drop (number + 1) starts)

module _ (search : Search) (is : IsSearch search) where
  -- what is ahead of the rows of a piece is ahead of those that may join
  begun : (own : Bool) (from to : ℕ) (starts : List Start) → to ≤ search.left.batch.now.rows → Begins search own from to starts →
      ahead_of search (probe_at from 0) ≡ ahead_of search (probe_at (first_left to starts) 0)
  begun own from to starts le it = skipped search is from (first_left to starts) it.after (omega (arith, it.within, le)) it.none

  -- the pairs of a piece, and those that are still to be found
  pub went_on : (own : Bool) (at stop : Probe) (to : ℕ) (starts : List Start) (made more whole : List Pair) → at.from ≡ 0 → to ≤ search.left.batch.now.rows →
      Begins search own at.left to starts → more ++ ahead_of search stop ≡ made ++ ahead_of search (probe_at (first_left to starts) 0) →
      made ++ ahead_of search at ≡ whole → more ++ ahead_of search stop ≡ whole
  went_on own at stop to starts made more whole first le it given had =
      given ∙ ap (λ (ahead : List Pair). made ++ ahead) (sym (begun own at.left to starts le it))
      ∙ ap (λ (from : ℕ). made ++ ahead_of search (probe_at at.left from)) (sym first) ∙ had

  module _ (own : Bool) (to : ℕ) where
    pub next_start : (starts : List Start) (number : ℕ) (other : Start) → number < length starts → AreStarts search own to (drop number starts) →
        Next search own to starts number (get_or starts number other)
    next_start starts number other lt all =
        let start = get_or starts number other in
        let parted : drop number starts ≡ start ∷ drop (number + 1) starts = drop_more starts number other lt in
        let both : IsStart search own (first_left to (drop (number + 1) starts)) start × AreStarts search own to (drop (number + 1) starts) =
        subst (AreStarts search own to) parted all in
        record { first = ap (first_left to) parted; here = both.0; later = both.1 }

    module _ (next : ℕ) (start : Start) (here : IsStart search own next start) (stop most : ℕ) (made more whole : List Pair)
        (had : Searches search (probe_at start.left 0) made whole most)
        (walked : more ++ pairs_past (walk_at search start.left) stop ≡ made ++ pairs_past (walk_at search start.left) start.head) where
      low : start.left < search.left.batch.now.rows
      low = omega (arith, here.before, here.within)

      from_first : more ++ pairs_past (walk_at search start.left) stop ≡ made ++ pairs_past (walk_at search start.left) 0
      from_first = walked ∙ ap (λ (rest : List Pair). made ++ rest) (sym (lead_same (walk_at search start.left) (can_walk search is start.left low) 0 start.head here.head.leads))

      -- where its pairs are not all found
      pub start_stopped : more ++ ahead_of search (probe_at start.left stop) ≡ whole
      start_stopped = stopped search is start.left 0 stop most made more whole low had from_first

      -- where they are, the next row of the piece is next
      pub start_passed : length search.rights.now.places.items ≤ stop → more ++ ahead_of search (probe_at next 0) ≡ whole
      start_passed past =
          ap (λ (ahead : List Pair). more ++ ahead) (sym (skipped search is (start.left + 1) next (omega (arith, here.before)) here.within (λ row h l. here.none row (omega (arith, h)) l)))
          ∙ passed search is start.left 0 stop most made more whole low had from_first past
