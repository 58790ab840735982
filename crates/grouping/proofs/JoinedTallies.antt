-- Tallies of other rows that are added to those of rows.
use Rattle.std.proofs.Common.{◌≡◌, ◌≢◌, ◌≤◌, ◌<◌, ℕ, zero, suc, Bool, true, false, ◌&&◌, List, [], ◌∷◌, ◌++◌, length, get_or, refl, sym, ap, ◌∙◌, arith, ◌⊎◌, inl, inr, get_or-set_other, get_or-set_same}
use Rattle.std.specs.Prelude.{nat_eq, nat_lt}
use Rattle.std.specs.List.{filter}
use Rattle.std.proofs.Math.ListN.{length-set}
use Rattle.std.proofs.lemmas.Bool.{cases_lt}
use Rattle.std.proofs.lemmas.List.Sums.{fold-append}
use borrow.Author.Tests.{eq-eqb, eqb-false, eqb-true, le-ltb, lt-ltb, ne_eqb}
use Rattle.scan_base.specs.declared.value.Value.{Value}
use Rattle.table_versions.specs.Table.{Row}
use Rattle.typed_plan.specs.declared.plan.Aggregate.{Aggregate}
use Rattle.group_slots.specs.declared.tally.Tally.{Tally}
use Rattle.group_slots.specs.Tallies.{no_rows, added, both, tally_of}
use Rattle.group_slots.proofs.Both.{both_assoc, both_none, both_turned, fold_both}
use Rattle.grouping.specs.FedRows.{AreTallied}
use Rattle.grouping.specs.FoundKeys.{key_in, place_in, found_in, found_then, first_found, share}
use Rattle.grouping.specs.inside.Merging.{AreJoined, AreTalliesJoined, joined_tallies}
use Rattle.grouping.proofs.JoinedKeys.{place_key}
use Rattle.grouping.proofs.Sharing.{all_found, filter_alike, filter_none, old_tally, share_more}

-- ---- rows that are split in two

-- the first is one of the others, and no two of those
abbrev Splits : Bool → Bool → Bool → Type 0
Splits true true false = Unit {0}
Splits true false true = Unit {0}
Splits false false false = Unit {0}
Splits _ _ _ = ⊥

split_tally : (item : Aggregate) (p q r : Row → Bool) (rows : List Row) → ((row : Row) → Splits (p row) (q row) (r row)) →
    tally_of item (filter p rows) ≡ both (tally_of item (filter q rows)) (tally_of item (filter r rows))
split_tally item p q r [] splits = sym (both_none no_rows)
split_tally item p q r (row ∷ rows) splits = by (split_tally item p q r rows splits) (p row) (q row) (r row) refl refl refl (splits row)
  where
    one : Tally
    one = added item no_rows row

    by : tally_of item (filter p rows) ≡ both (tally_of item (filter q rows)) (tally_of item (filter r rows)) →
        (t u v : Bool) → p row ≡ t → q row ≡ u → r row ≡ v → Splits t u v →
        tally_of item (filter p (row ∷ rows)) ≡ both (tally_of item (filter q (row ∷ rows))) (tally_of item (filter r (row ∷ rows)))
    by rest true true false e f g h = rw (e, f, g)
        (fold_both item one (filter p rows) ∙ ap (both one) rest
        ∙ sym (both_assoc one (tally_of item (filter q rows)) (tally_of item (filter r rows)))
        ∙ ap (λ (tally : Tally). both tally (tally_of item (filter r rows))) (sym (fold_both item one (filter q rows))))
    by rest true false true e f g h = rw (e, f, g)
        (fold_both item one (filter p rows) ∙ ap (both one) rest
        ∙ both_turned one (tally_of item (filter q rows)) (tally_of item (filter r rows))
        ∙ ap (both (tally_of item (filter q rows))) (sym (fold_both item one (filter r rows))))
    by rest false false false e f g h = rw (e, f, g) rest
    by rest true true true e f g h = absurd h
    by rest true false false e f g h = absurd h
    by rest false true true e f g h = absurd h
    by rest false true false e f g h = absurd h
    by rest false false true e f g h = absurd h

-- ---- rows of other groups, by the places of their keys

-- whether a place is below a bound, and joins a group
abbrev joins : List ℕ → ℕ → ℕ → ℕ → Bool
joins groups group bound place = nat_eq (get_or groups place 0) group && nat_lt place bound

joins_none : (groups : List ℕ) (group place : ℕ) → joins groups group 0 place ≡ false
joins_none groups group place = by (nat_eq (get_or groups place 0) group)
  where
    by : (t : Bool) → (t && nat_lt place 0) ≡ false
    by true = le-ltb place 0 (omega arith)
    by false = refl

-- with a place more that joins the group
joins_here : (groups : List ℕ) (group bound place : ℕ) → nat_eq (get_or groups bound 0) group ≡ true →
    Splits (joins groups group (suc bound) place) (joins groups group bound place) (nat_eq place bound)
joins_here groups group bound place here = by (cases_lt place bound) (cases_lt bound place)
  where
    inside : (t : Bool) → Splits (t && true) (t && true) false
    inside true = tt
    inside false = tt

    outside : (t : Bool) → Splits (t && false) (t && false) false
    outside true = tt
    outside false = tt

    by : (place < bound) ⊎ (bound ≤ place) → (bound < place) ⊎ (place ≤ bound) → Splits (joins groups group (suc bound) place) (joins groups group bound place) (nat_eq place bound)
    by (inl low) _ =
        rw (lt-ltb place bound low, lt-ltb place (suc bound) (omega arith), ne_eqb place bound (λ (q : place ≡ bound). omega arith)) (inside (nat_eq (get_or groups place 0) group))
    by (inr high) (inl above) =
        rw (le-ltb place bound high, le-ltb place (suc bound) (omega arith), ne_eqb place bound (λ (q : place ≡ bound). omega arith)) (outside (nat_eq (get_or groups place 0) group))
    by (inr high) (inr low) =
        let same : place ≡ bound = omega arith in
        rw (same, here, le-ltb bound bound (omega arith), lt-ltb bound (suc bound) (omega arith), eq-eqb bound bound refl) tt

-- with a place more that joins another
joins_other : (groups : List ℕ) (group bound place : ℕ) → nat_eq (get_or groups bound 0) group ≡ false →
    joins groups group bound place ≡ joins groups group (suc bound) place
joins_other groups group bound place other = by (cases_lt place bound) (cases_lt bound place)
  where
    by : (place < bound) ⊎ (bound ≤ place) → (bound < place) ⊎ (place ≤ bound) → joins groups group bound place ≡ joins groups group (suc bound) place
    by (inl low) _ = rw (lt-ltb place bound low, lt-ltb place (suc bound) (omega arith)) refl
    by (inr high) (inl above) = rw (le-ltb place bound high, le-ltb place (suc bound) (omega arith)) refl
    by (inr high) (inr low) =
        let same : place ≡ bound = omega arith in
        rw (same, other) refl

-- below the last place each joins
joins_all : (groups : List ℕ) (group bound place : ℕ) → place < bound → joins groups group bound place ≡ nat_eq (get_or groups place 0) group
joins_all groups group bound place low = rw (lt-ltb place bound low) (by (nat_eq (get_or groups place 0) group))
  where
    by : (t : Bool) → (t && true) ≡ t
    by true = refl
    by false = refl

-- ---- tallies of groups

pub joined_long : (groups : List ℕ) (others tallies : List Tally) (count : ℕ) → length (joined_tallies groups others tallies count) ≡ length tallies
joined_long groups others tallies zero = refl
joined_long groups others tallies (suc count) = length-set _ _ _ ∙ joined_long groups others tallies count

-- the rows of the other groups below a bound that join a group
abbrev joining : List ℕ → List (List Value) → List ℕ → List Row → ℕ → ℕ → List Row
joining keys found groups more group bound = filter (λ row. joins groups group bound (place_in found (key_in keys row))) more

-- a tally after other tallies has the rows of the groups that join its own
joined_at : (item : Aggregate) (keys : List ℕ) (found : List (List Value)) (groups : List ℕ) (others tallies : List Tally) (more : List Row) (count : ℕ) →
    count ≤ length groups → ((k : ℕ) → k < length groups → get_or others k no_rows ≡ tally_of item (share keys found more k)) →
    ((k : ℕ) → k < length groups → get_or groups k 0 < length tallies) → (group : ℕ) →
    get_or (joined_tallies groups others tallies count) group no_rows ≡ both (get_or tallies group no_rows) (tally_of item (joining keys found groups more group count))
joined_at item keys found groups others tallies more zero low tallied there group =
    sym (ap (λ (rows : List Row). both (get_or tallies group no_rows) (tally_of item rows))
    (filter_none (λ row. joins groups group 0 (place_in found (key_in keys row))) more (λ k d below. joins_none groups group _))
    ∙ both_none (get_or tallies group no_rows))
joined_at item keys found groups others tallies more (suc count) low tallied there group =
    by (joined_at item keys found groups others tallies more count (omega arith) tallied there group) (nat_eq (get_or groups count 0) group) refl
  where
    before : List Tally
    before = joined_tallies groups others tallies count

    here : ℕ
    here = get_or groups count 0

    start : Tally
    start = get_or tallies group no_rows

    inside : here < length before
    inside = omega (arith, there count (omega arith), joined_long groups others tallies count)

    by : get_or before group no_rows ≡ both start (tally_of item (joining keys found groups more group count)) →
        (t : Bool) → nat_eq here group ≡ t →
        get_or (joined_tallies groups others tallies (suc count)) group no_rows ≡ both start (tally_of item (joining keys found groups more group (suc count)))
    by so true e =
        let same : here ≡ group = eqb-true here group e in
        let mine = tally_of item (joining keys found groups more group count) in
        ap (λ (place : ℕ). get_or (joined_tallies groups others tallies (suc count)) place no_rows) (sym same)
        ∙ get_or-set_same before here (both (get_or before here no_rows) (get_or others count no_rows)) no_rows inside
        ∙ ap (λ (place : ℕ). both (get_or before place no_rows) (get_or others count no_rows)) same
        ∙ ap (λ (tally : Tally). both tally (get_or others count no_rows)) so
        ∙ ap (both (both start mine)) (tallied count (omega arith))
        ∙ both_assoc start mine (tally_of item (share keys found more count))
        ∙ ap (both start) (sym (split_tally item (λ row. joins groups group (suc count) (place_in found (key_in keys row))) (λ row. joins groups group count (place_in found (key_in keys row)))
        (λ row. nat_eq (place_in found (key_in keys row)) count) more (λ row. joins_here groups group count (place_in found (key_in keys row)) e)))
    by so false e =
        let other : group ≢ here = λ (q : group ≡ here). eqb-false here group e (sym q) in
        get_or-set_other before here group (both (get_or before here no_rows) (get_or others count no_rows)) no_rows other
        ∙ so
        ∙ ap (λ (rows : List Row). both start (tally_of item rows))
        (filter_alike (λ row. joins groups group count (place_in found (key_in keys row))) (λ row. joins groups group (suc count) (place_in found (key_in keys row))) more
        (λ k d below. joins_other groups group count _ e))

-- the rows of all other groups that join a group are its share of the other rows
joining_all : (keys : List ℕ) (merged : List (List Value)) (groups : List ℕ) (more : List Row) (group : ℕ) →
    AreJoined merged (found_in keys more) groups (length (found_in keys more)) →
    joining keys (found_in keys more) groups more group (length groups) ≡ share keys merged more group
joining_all keys merged groups more group are =
    let found = found_in keys more in
    filter_alike (λ row. joins groups group (length groups) (place_in found (key_in keys row))) (λ row. nat_eq (place_in merged (key_in keys row)) group) more
    (λ k d below.
    let row = get_or more k d in
    let place = place_in found (key_in keys row) in
    let low : place < length found = all_found keys (first_found keys) more k d below in
    joins_all groups group (length groups) place (omega (arith, low, are.long))
    ∙ ap (λ (at : ℕ). nat_eq at group) (are.each place low ∙ ap (place_in merged) (place_key found (key_in keys row) low)))

-- tallies of rows, with those of others, are those of all
pub both_tallied : (keys : List ℕ) (rows more : List Row) (item : Aggregate) (before others after : List Tally) (merged : List (List Value)) (groups : List ℕ) →
    merged ≡ found_then keys (found_in keys rows) more → AreJoined merged (found_in keys more) groups (length (found_in keys more)) →
    AreTalliesJoined groups others (length merged) before after →
    AreTallied keys (found_in keys rows) rows item before → AreTallied keys (found_in keys more) more item others →
    AreTallied keys merged (rows ++ more) item after
both_tallied keys rows more item before others after merged groups is are joins tallied other = record {
  long = ap length joins.is ∙ joined_long groups others joins.padded (length groups) ∙ joins.long;
  each = λ group low.
      let mine : get_or before group no_rows ≡ tally_of item (share keys merged rows group) =
      old_tally keys (found_in keys rows) more rows item before tallied (all_found keys (first_found keys) rows) group
      ∙ ap (λ (found : List (List Value)). tally_of item (share keys found rows group)) (sym is) in
      ap (λ (tallies : List Tally). get_or tallies group no_rows) joins.is
      ∙ joined_at item keys (found_in keys more) groups others joins.padded more (length groups) (omega arith)
      (λ k below. other.each k (omega (arith, below, are.long))) (λ k below. omega (arith, are.there k (omega (arith, below, are.long)), joins.long)) group
      ∙ ap (λ (tally : Tally). both tally (tally_of item (joining keys (found_in keys more) groups more group (length groups)))) (joins.same group low ∙ mine)
      ∙ ap (λ (some : List Row). both (tally_of item (share keys merged rows group)) (tally_of item some)) (joining_all keys merged groups more group are)
      ∙ sym (ap (tally_of item) (share_more keys merged rows more group)
      ∙ fold-append (added item) no_rows (share keys merged rows group) (share keys merged more group)
      ∙ fold_both item (tally_of item (share keys merged rows group)) (share keys merged more group));
}
