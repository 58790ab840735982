-- A walk along a chain passes over no row that joins.
use Rattle.std.proofs.Common.{◌≡◌, ◌≤◌, ◌<◌, ◌+◌, ◌-◌, ℕ, zero, suc, Bool, true, false, List, [], ◌∷◌, ◌++◌, length, map, drop, get_or, Option, Some, None, inl, inr, if◌then◌else◌, refl, sym, ap, subst, ◌∙◌, arith, append_assoc, add-one, length-append}
use Rattle.std.specs.List.{filter}
use Rattle.std.proofs.Math.ListN.{drop_of_length-le}
use Rattle.std.proofs.Math.Seq.{drop-cons}
use Rattle.std.proofs.lemmas.Bool.{cases_lt}
use Rattle.std.proofs.lemmas.List.{length-map}
use Rattle.arrays.specs.Batch.{row_of}
use Rattle.scan_base.specs.Predicate.{cell_in}
use Rattle.hash_join.specs.declared.pair.Pair.{Pair}
use Rattle.hash_join.specs.declared.walk.Walk.{Walk}
use Rattle.hash_join.specs.Pairs.{row_at}
use Rattle.hash_join.specs.KeyRows.{row_key}
use Rattle.hash_join.specs.Rights.{place_at, key_at, bucket_at}
use Rattle.hash_join.specs.Hashes.{last_of}
use Rattle.hash_join.specs.Chains.{stands, Leads}
use Rattle.hash_join.specs.Walks.{joins_at, pair_at, pairs_past, bucket_left, in_chain, IsWalk, JoinsChain}
use Rattle.hash_join.proofs.EqualKeys.{two_buckets, standing}

-- the pairs that are found, and those that are still to be found with right rows from a row of the
-- chain on, are all
pub record Follows (walk : Walk) (at : ℕ) (made whole : List Pair) (most : ℕ) : Type 0 where
  pub all : made ++ pairs_past walk at ≡ whole
  pub there : at < length walk.rights.now.places.items → in_chain walk at ≡ true
  pub few : length made ≤ most

-- items that do not pass are left out
skip : {X : Type 0} (p : X → Bool) (xs : List X) (d : X) (k a : ℕ) →
    ((i : ℕ) → a ≤ i → i < a + k → i < length xs → p (get_or xs i d) ≡ false) → filter p (drop a xs) ≡ filter p (drop (a + k) xs)
skip p xs d zero a none = let e : a + zero ≡ a = omega arith in rw e refl
skip p xs d (suc k) a none = elim (cases_lt a (length xs)) [
  | inl lt ↦
      let e : a + suc k ≡ a + 1 + k = omega arith in
      let miss : p (get_or xs a d) ≡ false = none a (omega arith) (omega arith) lt in
      let rest = skip p xs d k (a + 1) (λ i h l. none i (omega arith) (omega arith)) in
      rw (e, drop-cons xs a d lt, miss) (ap (λ n. filter p (drop n xs)) (sym (add-one a)) ∙ rest)
  | inr ge ↦
      let l : length xs ≤ a + suc k = omega arith in
      ap (filter p) (drop_of_length-le xs ge ∙ sym (drop_of_length-le xs l))
]

-- the first item by itself
first_item : {X : Type 0} (p : X → Bool) (xs : List X) (d : X) (a : ℕ) → a < length xs →
    filter p (drop a xs) ≡ (if p (get_or xs a d) then get_or xs a d ∷ [] else []) ++ filter p (drop (a + 1) xs)
first_item p xs d a lt = rw (drop-cons xs a d lt, add-one a) (parted (p (get_or xs a d)) refl)
  where
    parted : (b : Bool) → p (get_or xs a d) ≡ b →
        filter p (get_or xs a d ∷ drop (suc a) xs) ≡ (if p (get_or xs a d) then get_or xs a d ∷ [] else []) ++ filter p (drop (suc a) xs)
    parted true e = rw e refl
    parted false e = rw e refl

module _ (walk : Walk) (is : IsWalk walk) where
  -- a row of another bucket does not join
  misses : (row : ℕ) → in_chain walk row ≡ false → joins_at walk (place_at walk.rights.now row) ≡ false
  misses row apart =
      let rights = walk.rights.now in
      two_buckets rights.buckets (row_key walk.left) (key_at rights row)
      (length-map walk.left.key.now (cell_in (row_of walk.left.batch.now.columns walk.left.row)) ∙ is.alike
      ∙ sym (length-map rights.key.items (cell_in (row_at rights.batches.items (place_at rights row))))) apart

  -- the rows before the first of a chain do not join
  pub lead_same : (from head : ℕ) → Leads (in_chain walk) (length walk.rights.now.places.items) from head → pairs_past walk from ≡ pairs_past walk head
  lead_same from head lead =
      let e : from + (head - from) ≡ head = omega (arith, lead.after) in
      ap (map (pair_at walk)) (skip (joins_at walk) walk.rights.now.places.items (0, 0) (head - from) from
      (λ row h l within. misses row (lead.none row h (omega arith))))
      ∙ ap (pairs_past walk) e

  -- the first row of the left row's chain
  pub head_leads : (bucket : ℕ) → bucket_left walk ≡ Some bucket → bucket ≤ last_of walk.rights.now.buckets →
      Leads (in_chain walk) (length walk.rights.now.places.items) 0 (get_or walk.chains.now.heads.items bucket 0)
  head_leads bucket at le =
      let count = length walk.rights.now.places.items in
      subst (λ (left : Option ℕ). Leads (λ row. stands left (bucket_at walk.rights.now row)) count 0 (get_or walk.chains.now.heads.items bucket 0))
      (sym at) (is.linked.first bucket le)

  -- the next row of the chain
  pub next_leads : (row : ℕ) → row < length walk.rights.now.places.items → in_chain walk row ≡ true →
      Leads (in_chain walk) (length walk.rights.now.places.items) (row + 1) (get_or walk.chains.now.links.items row 0)
  next_leads row lt here =
      let at = standing (bucket_left walk) (bucket_at walk.rights.now row) here in
      let count = length walk.rights.now.places.items in
      subst (λ (left : Option ℕ). Leads (λ later. stands left (bucket_at walk.rights.now later)) count (row + 1) (get_or walk.chains.now.links.items row 0))
      (sym at.1) (is.linked.next row at.0 (omega arith) lt at.2)

  -- the pair of one row
  abbrev pub pair_of_row : ℕ → List Pair
  pair_of_row row = if joins_at walk (place_at walk.rights.now row) then pair_at walk (place_at walk.rights.now row) ∷ [] else []

  first_pair : (row : ℕ) → row < length walk.rights.now.places.items → pairs_past walk row ≡ pair_of_row row ++ pairs_past walk (row + 1)
  first_pair row lt =
      ap (map (pair_at walk)) (first_item (joins_at walk) walk.rights.now.places.items (0, 0) row lt)
      ∙ parted (joins_at walk (place_at walk.rights.now row))
    where
      parted : (b : Bool) →
          map (pair_at walk) ((if b then place_at walk.rights.now row ∷ [] else []) ++ filter (joins_at walk) (drop (row + 1) walk.rights.now.places.items))
          ≡ (if b then pair_at walk (place_at walk.rights.now row) ∷ [] else []) ++ pairs_past walk (row + 1)
      parted true = refl
      parted false = refl

  one_at_most : (row : ℕ) → length (pair_of_row row) ≤ 1
  one_at_most row = of (joins_at walk (place_at walk.rights.now row))
    where
      of : (b : Bool) → length (if b then pair_at walk (place_at walk.rights.now row) ∷ [] else []) ≤ 1
      of true = omega arith
      of false = omega arith

  -- one row of the chain more
  pub next_follows : (row most : ℕ) (made whole : List Pair) → row < length walk.rights.now.places.items → length made < most →
      Follows walk row made whole most → Follows walk (get_or walk.chains.now.links.items row 0) (made ++ pair_of_row row) whole most
  next_follows row most made whole lt few had =
      let next = get_or walk.chains.now.links.items row 0 in
      let lead = next_leads row lt (had.there lt) in
      record {
        all = append_assoc made (pair_of_row row) (pairs_past walk next)
            ∙ ap (λ rest. made ++ (pair_of_row row ++ rest)) (sym (lead_same (row + 1) next lead))
            ∙ ap (λ rest. made ++ rest) (sym (first_pair row lt)) ∙ had.all;
        there = lead.there;
        few = omega (arith, length-append made (pair_of_row row), one_at_most row);
      }

  -- a left row without a bucket joins nothing
  pub none_joins : (from past : ℕ) → bucket_left walk ≡ None → length walk.rights.now.places.items ≤ past → pairs_past walk from ≡ pairs_past walk past
  none_joins from past null le =
      let count = length walk.rights.now.places.items in
      let all_miss = skip (joins_at walk) walk.rights.now.places.items (0, 0) count from
      (λ row h l within. misses row (ap (λ left. stands left (bucket_at walk.rights.now row)) null)) in
      let l : count ≤ from + count = omega arith in
      ap (map (pair_at walk)) (all_miss
      ∙ ap (filter (joins_at walk)) (drop_of_length-le walk.rights.now.places.items l ∙ sym (drop_of_length-le walk.rights.now.places.items le)))

  -- after the last right row none is left
  pub past_all : pairs_past walk (length walk.rights.now.places.items) ≡ []
  past_all = ap (λ (places : List (ℕ × ℕ)). map (pair_at walk) (filter (joins_at walk) places)) (drop_of_length-le walk.rights.now.places.items (omega arith))

  -- a left row whose chain has no row joins nothing
  pub none_led : (bucket from : ℕ) → bucket_left walk ≡ Some bucket → bucket ≤ last_of walk.rights.now.buckets →
      length walk.rights.now.places.items ≤ get_or walk.chains.now.heads.items bucket 0 → pairs_past walk from ≡ []
  none_led bucket from at le past =
      let count = length walk.rights.now.places.items in
      let lead = head_leads bucket at le in
      let all_miss = skip (joins_at walk) walk.rights.now.places.items (0, 0) count from
      (λ row h l within. misses row (lead.none row (omega arith) (omega (arith, within, past)))) in
      let l : count ≤ from + count = omega arith in
      ap (map (pair_at walk)) (all_miss ∙ ap (filter (joins_at walk)) (drop_of_length-le walk.rights.now.places.items l))

  -- one row of a chain all of whose rows join
  pub next_taken : (row most : ℕ) (made new whole : List Pair) (pair : Pair) → JoinsChain walk → row < length walk.rights.now.places.items → length made < most →
      new ≡ made ++ pair ∷ [] → pair ≡ pair_at walk (place_at walk.rights.now row) → Follows walk row made whole most →
      Follows walk (get_or walk.chains.now.links.items row 0) new whole most
  next_taken row most made new whole pair all lt few e at had =
      let joins = all row lt (had.there lt) in
      let one : pair_of_row row ≡ pair ∷ [] = ap (λ (b : Bool). if b then pair_at walk (place_at walk.rights.now row) ∷ [] else []) joins ∙ ap (λ (p : Pair). p ∷ []) (sym at) in
      subst (λ (some : List Pair). Follows walk (get_or walk.chains.now.links.items row 0) some whole most) (ap (λ (some : List Pair). made ++ some) one ∙ sym e)
      (next_follows row most made whole lt few had)
