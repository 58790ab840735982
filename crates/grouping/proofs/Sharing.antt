-- The rows of each group, and their tallies.
use Rattle.std.proofs.Common.{◌≡◌, ◌≢◌, ◌≤◌, ◌<◌, ℕ, zero, suc, Bool, true, false, cond, List, [], ◌∷◌, ◌++◌, length, map, get_or, take, slice_set, refl, sym, ap, ◌∙◌, subst, arith, All, add-one, get_or-set_other, get_or-set_same}
use Rattle.std.specs.Prelude.{◌==◌, nat_eq, nat_lt}
use Rattle.std.specs.List.{fold, filter}
use Rattle.std.proofs.Math.ListN.{get_or-eq_default}
use Rattle.std.proofs.lemmas.List.{map_more, take_all}
use Rattle.std.proofs.lemmas.List.Elements.{filter-append, All-nil, All-cons}
use Rattle.std.proofs.lemmas.List.Sums.{fold-append}
use borrow.Author.Tests.{ne_eqb, eqb-true, eqb-false, ltb-true, ltb-false}
use Rattle.indexmap.specs.IndexSet.{insert_key}
use Rattle.scan_base.specs.declared.value.Value.{Value}
use Rattle.arrays.specs.Batch.{row_of}
use Rattle.arrays.specs.Column.{ColumnAt}
use Rattle.table_versions.specs.Table.{Row}
use Rattle.typed_plan.specs.declared.plan.Aggregate.{Aggregate}
use Rattle.typed_plan.specs.GroupedRows.{same_key}
use Rattle.group_slots.specs.declared.tally.Tally.{Tally}
use Rattle.group_slots.specs.Tallies.{no_rows, added, tally_of}
use Rattle.group_slots.specs.Counting.{stepped}
use Rattle.group_slots.specs.Adding.{IsAdded}
use Rattle.group_slots.proofs.Stepping.{stepped_long}
use Rattle.grouping.specs.FoundKeys.{key_in, place_in, found_then, found_in, first_found, share}
use Rattle.grouping.specs.FedRows.{AreTallied}
use Rattle.grouping.specs.inside.Placing.{ArePlaced}
use Rattle.grouping.proofs.Finding.{place_stays, place_inserted, more_there}

-- the rows of a group among some rows, and then among more
pub share_more : (keys : List ℕ) (found : List (List Value)) (xs ys : List Row) (g : ℕ) →
    share keys found (xs ++ ys) g ≡ share keys found xs g ++ share keys found ys g
share_more keys found xs ys g = filter-append (λ row. place_in found (key_in keys row) == g) xs ys

-- a tally after rows has the rows of its group
pub stepped_share : (keys : List ℕ) (columns : List ColumnAt) (found : List (List Value)) (rows groups : List ℕ) (item : Aggregate) (tallies : List Tally) (count : ℕ) →
    ArePlaced keys columns found rows groups (length rows) → length tallies ≡ length found → count ≤ length rows → (g : ℕ) →
    get_or (stepped item columns groups rows tallies count) g no_rows
    ≡ fold (added item) (get_or tallies g no_rows) (share keys found (map (row_of columns) (take count rows)) g)
stepped_share keys columns found rows groups item tallies zero placed long low g = refl
stepped_share keys columns found rows groups item tallies (suc count) placed long low g =
    let row = row_of columns (get_or rows count 0) in
    let before = stepped item columns groups rows tallies count in
    let group = get_or groups count 0 in
    let again : get_or before g no_rows ≡ fold (added item) (get_or tallies g no_rows) (share keys found (map (row_of columns) (take count rows)) g) =
    stepped_share keys columns found rows groups item tallies count placed long (omega arith) g in
    let here : group ≡ place_in found (key_in keys row) = placed.each count (omega arith) in
    let there : group < length before = omega (arith, placed.there count (omega arith), stepped_long item columns groups rows tallies count) in
    let grown : map (row_of columns) (take (suc count) rows) ≡ map (row_of columns) (take count rows) ++ row ∷ [] =
    ap (λ n. map (row_of columns) (take n rows)) (sym (add-one count)) ∙ map_more (row_of columns) rows count 0 (omega arith) in
    let all : fold (added item) (get_or tallies g no_rows) (share keys found (map (row_of columns) (take (suc count) rows)) g)
    ≡ fold (added item) (get_or before g no_rows) (share keys found (row ∷ []) g) =
    ap (λ rows. fold (added item) (get_or tallies g no_rows) (share keys found rows g)) grown
    ∙ ap (fold (added item) (get_or tallies g no_rows)) (share_more keys found (map (row_of columns) (take count rows)) (row ∷ []) g)
    ∙ fold-append (added item) (get_or tallies g no_rows) (share keys found (map (row_of columns) (take count rows)) g) (share keys found (row ∷ []) g)
    ∙ ap (λ t. fold (added item) t (share keys found (row ∷ []) g)) (sym again) in
    last item found keys row before group g here there ∙ sym all
  where
    last : (item : Aggregate) (found : List (List Value)) (keys : List ℕ) (row : Row) (before : List Tally) (group g : ℕ) →
        group ≡ place_in found (key_in keys row) → group < length before →
        get_or (slice_set before group (added item (get_or before group no_rows) row)) g no_rows
        ≡ fold (added item) (get_or before g no_rows) (share keys found (row ∷ []) g)
    last item found keys row before group g here there = by (nat_eq (place_in found (key_in keys row)) g) refl
      where
        by : (t : Bool) → nat_eq (place_in found (key_in keys row)) g ≡ t →
            get_or (slice_set before group (added item (get_or before group no_rows) row)) g no_rows
            ≡ fold (added item) (get_or before g no_rows) (share keys found (row ∷ []) g)
        by true e =
            let same : group ≡ g = here ∙ eqb-true _ _ e in
            rw (e, ← same) (get_or-set_same before group (added item (get_or before group no_rows) row) no_rows there)
        by false e =
            let other : g ≢ group = λ (q : g ≡ group). eqb-false _ _ e (sym here ∙ sym q) in
            rw e (get_or-set_other before group g (added item (get_or before group no_rows) row) no_rows other)

-- keys that were found stay, where they are
pub found_grows : (keys : List ℕ) (found : List (List Value)) (rows : List Row) → length found ≤ length (found_then keys found rows)
found_grows keys found [] = omega arith
found_grows keys found (row ∷ rows) =
    omega (arith, more_there found (key_in keys row), found_grows keys (insert_key same_key found (key_in keys row)) rows)

pub place_kept : (keys : List ℕ) (found : List (List Value)) (rows : List Row) (key : List Value) → place_in found key < length found →
    place_in (found_then keys found rows) key ≡ place_in found key
place_kept keys found [] key low = refl
place_kept keys found (row ∷ rows) key low =
    let stays = place_stays found key (key_in keys row) low in
    place_kept keys (insert_key same_key found (key_in keys row)) rows key (omega (arith, stays, more_there found (key_in keys row))) ∙ stays

-- each row has a place
pub all_found : (keys : List ℕ) (found : List (List Value)) (rows : List Row) →
    All (λ row. place_in (found_then keys found rows) (key_in keys row) < length (found_then keys found rows)) rows
all_found keys found [] = All-nil _
all_found keys found (row ∷ rows) =
    let after = insert_key same_key found (key_in keys row) in
    let inserted = place_inserted found (key_in keys row) in
    let low : place_in after (key_in keys row) < length after = omega (arith, inserted.0, inserted.1) in
    let now = found_then keys after rows in
    let here : place_in now (key_in keys row) < length now = omega (arith, place_kept keys after rows (key_in keys row) low, low, found_grows keys after rows) in
    All-cons (λ (row : Row). place_in now (key_in keys row) < length now) row rows here (all_found keys after rows)

-- tests that agree keep the same
pub filter_alike : {X : Type 0} (p q : X → Bool) (xs : List X) → All (λ x. p x ≡ q x) xs → filter p xs ≡ filter q xs
filter_alike p q [] alike = refl
filter_alike p q (x ∷ xs) alike =
    let first : p x ≡ q x = alike 0 x (omega arith) in
    ap (λ t. cond t (x ∷ filter p xs) (filter p xs)) first
    ∙ ap (λ rest. cond (q x) (x ∷ rest) rest) (filter_alike p q xs (λ k d low. alike (suc k) d (omega arith)))

pub filter_none : {X : Type 0} (p : X → Bool) (xs : List X) → All (λ x. p x ≡ false) xs → filter p xs ≡ []
filter_none p [] none = refl
filter_none p (x ∷ xs) none =
    let first : p x ≡ false = none 0 x (omega arith) in
    ap (λ t. cond t (x ∷ filter p xs) (filter p xs)) first ∙ filter_none p xs (λ k d low. none (suc k) d (omega arith))

-- what is found later changes no share of rows that had their places
pub share_kept : (keys : List ℕ) (found : List (List Value)) (more rows : List Row) (group : ℕ) →
    All (λ row. place_in found (key_in keys row) < length found) rows →
    share keys (found_then keys found more) rows group ≡ share keys found rows group
share_kept keys found more rows group all =
    filter_alike (λ row. place_in (found_then keys found more) (key_in keys row) == group) (λ row. place_in found (key_in keys row) == group) rows
    (λ k d low. ap (λ place. place == group) (place_kept keys found more (key_in keys (get_or rows k d)) (all k d low)))

-- a group that opens later has none of the rows before
pub share_none : (keys : List ℕ) (found : List (List Value)) (rows : List Row) (group : ℕ) → length found ≤ group →
    All (λ row. place_in found (key_in keys row) < length found) rows → share keys found rows group ≡ []
share_none keys found rows group high all =
    filter_none (λ row. place_in found (key_in keys row) == group) rows
    (λ k d low. ne_eqb _ _ (λ (q : place_in found (key_in keys (get_or rows k d)) ≡ group). omega (arith, all k d low)))

-- the tally of a group so far is that of its rows so far, whatever is found later
pub old_tally : (keys : List ℕ) (found : List (List Value)) (more earlier : List Row) (item : Aggregate) (before : List Tally) →
    AreTallied keys found earlier item before → All (λ row. place_in found (key_in keys row) < length found) earlier →
    (group : ℕ) → get_or before group no_rows ≡ tally_of item (share keys (found_then keys found more) earlier group)
old_tally keys found more earlier item before tallied places group = by (nat_lt group (length found)) refl
  where
    by : (t : Bool) → nat_lt group (length found) ≡ t → get_or before group no_rows ≡ tally_of item (share keys (found_then keys found more) earlier group)
    by true e = tallied.each group (ltb-true _ _ e) ∙ ap (tally_of item) (sym (share_kept keys found more earlier group places))
    by false e =
        let high : length found ≤ group = ltb-false _ _ e in
        get_or-eq_default before no_rows (omega (arith, tallied.long))
        ∙ ap (tally_of item) (sym (share_kept keys found more earlier group places ∙ share_none keys found earlier group high places))

-- rows that are fed after others: the tallies of an item are those of all of them
pub fed_tallies : (keys : List ℕ) (columns : List ColumnAt) (rows groups : List ℕ) (earlier : List Row) (item : Aggregate) (before after : List Tally) →
    (found : List (List Value)) → found ≡ found_in keys earlier →
    ArePlaced keys columns (found_then keys found (map (row_of columns) rows)) rows groups (length rows) →
    IsAdded item columns rows groups (length (found_then keys found (map (row_of columns) rows))) before after →
    AreTallied keys found earlier item before →
    AreTallied keys (found_then keys found (map (row_of columns) rows)) (earlier ++ map (row_of columns) rows) item after
fed_tallies keys columns rows groups earlier item before after found is placed is_added tallied =
    let more = map (row_of columns) rows in
    let now = found_then keys found more in
    let places : All (λ row. place_in found (key_in keys row) < length found) earlier =
    subst (λ f. All (λ row. place_in f (key_in keys row) < length f) earlier) (sym is) (all_found keys (first_found keys) earlier) in
    let old : (group : ℕ) → get_or before group no_rows ≡ tally_of item (share keys now earlier group) =
    λ group. old_tally keys found more earlier item before tallied places group in
    record {
      long = ap length is_added.stepped ∙ stepped_long item columns groups rows is_added.padded (length rows) ∙ is_added.long;
      each = λ group low.
          ap (λ ts. get_or ts group no_rows) is_added.stepped
          ∙ stepped_share keys columns now rows groups item is_added.padded (length rows) placed is_added.long (omega arith) group
          ∙ ap (λ rs. fold (added item) (get_or is_added.padded group no_rows) (share keys now (map (row_of columns) rs) group)) (take_all (length rows) rows (omega arith))
          ∙ ap (λ t. fold (added item) t (share keys now more group)) (is_added.same group low ∙ old group)
          ∙ sym (ap (tally_of item) (share_more keys now earlier more group)
          ∙ fold-append (added item) no_rows (share keys now earlier group) (share keys now more group));
    }
