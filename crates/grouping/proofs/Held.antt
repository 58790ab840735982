-- The groups of rows, by the keys that were found and the rows of each.
use Rattle.std.proofs.Common.{◌≡◌, ◌≢◌, ◌<◌, ℕ, zero, suc, ◌+◌, pos, Bool, true, false, cond, if◌then◌else◌, List, [], ◌∷◌, ◌++◌, length, map, get_or, refl, sym, ap, ◌∙◌, subst, arith, append_assoc}
use Rattle.std.specs.Prelude.{◌==◌, nat_eq}
use Rattle.std.specs.List.{fold, list_any, range_with_len}
use Rattle.std.proofs.lemmas.List.{append-nil}
use Rattle.indexmap.specs.IndexSet.{insert_key}
use Rattle.scan_base.specs.declared.value.Value.{Value}
use Rattle.scan_base.specs.declared.value.Value.TheVariants.{Null, Bool as Flag, Int, Text}
use Rattle.scan_base.specs.Predicate.{cell_in}
use Rattle.table_versions.specs.Table.{Row}
use Rattle.typed_plan.specs.GroupedRows.{Group, with_row, same_key, present, plus}
use Rattle.typed_plan.specs.Plan.{answered, groups_by}
use Rattle.typed_plan.specs.declared.plan.Aggregate.{Aggregate}
use Rattle.typed_plan.specs.declared.plan.Aggregate.TheVariants.{Key, CountRows, Count, Sum}
use Rattle.group_slots.specs.declared.tally.Tally.{Tally}
use Rattle.group_slots.specs.Tallies.{no_rows, added, counted, summed, tally_of, item_value}
use Rattle.grouping.specs.AnswerRows.{cell_at, group_row, HeldAnswersAreGroups}
use Rattle.grouping.specs.FoundKeys.{key_in, place_in, found_in, first_found, share}
use Rattle.first_rows.proofs.Keys.{same_key_laws}
use Rattle.grouping.proofs.Finding.{found_more, place_inserted}
use Rattle.grouping.proofs.Sharing.{share_more, share_kept, share_none, all_found}
use borrow.Author.Tests.{eq-eqb, ne_eqb, eqb-true, eqb-false}

-- ---- tallies

count_rows : (tally : Tally) (rows : List Row) → (fold (added CountRows) tally rows).count ≡ tally.count + length rows
count_rows tally [] = omega arith
count_rows tally (row ∷ rows) = omega (arith, count_rows (record tally { count = tally.count + 1 }) rows)

count_one : (tally : Tally) (value : Value) → (counted tally value).count ≡ tally.count + length (present (value ∷ []))
count_one tally Null = omega arith
count_one tally (Flag flag) = refl
count_one tally (Int number) = refl
count_one tally (Text text) = refl

more_present : (value : Value) (values : List Value) → length (present (value ∷ values)) ≡ length (present (value ∷ [])) + length (present values)
more_present Null values = omega arith
more_present (Flag flag) values = omega arith
more_present (Int number) values = omega arith
more_present (Text text) values = omega arith

count_values : (column : ℕ) (tally : Tally) (rows : List Row) →
    (fold (added (Count column)) tally rows).count ≡ tally.count + length (present (map (λ row. cell_in row column) rows))
count_values column tally [] = omega arith
count_values column tally (row ∷ rows) =
    omega (
      arith,
      count_values column (counted tally (cell_in row column)) rows,
      count_one tally (cell_in row column),
      more_present (cell_in row column) (map (λ row. cell_in row column) rows),
    )

sum_count : (tally : Tally) (value : Value) → (summed tally value).count ≡ (counted tally value).count
sum_count tally Null = refl
sum_count tally (Flag flag) = refl
sum_count tally (Int number) = refl
sum_count tally (Text text) = refl

sum_plus : (tally : Tally) (value : Value) → (summed tally value).sum ≡ plus tally.sum value
sum_plus tally Null = refl
sum_plus tally (Flag flag) = refl
sum_plus tally (Int number) = refl
sum_plus tally (Text text) = refl

sum_counts : (column : ℕ) (tally : Tally) (rows : List Row) →
    (fold (added (Sum column)) tally rows).count ≡ tally.count + length (present (map (λ row. cell_in row column) rows))
sum_counts column tally [] = omega arith
sum_counts column tally (row ∷ rows) =
    omega (
      arith,
      sum_counts column (summed tally (cell_in row column)) rows,
      count_one tally (cell_in row column),
      sum_count tally (cell_in row column),
      more_present (cell_in row column) (map (λ row. cell_in row column) rows),
    )

sum_sums : (column : ℕ) (tally : Tally) (rows : List Row) →
    (fold (added (Sum column)) tally rows).sum ≡ fold plus tally.sum (map (λ row. cell_in row column) rows)
sum_sums column tally [] = refl
sum_sums column tally (row ∷ rows) =
    sum_sums column (summed tally (cell_in row column)) rows
    ∙ ap (λ total. fold plus total (map (λ row. cell_in row column) rows)) (sum_plus tally (cell_in row column))

-- what an item gives of the tally of rows is what it gives of the rows
item_answered : (key : List Value) (rows : List Row) (item : Aggregate) →
    item_value key item (tally_of item rows) ≡ answered (record { key = key; rows = rows }) item
item_answered key rows (Key place) = refl
item_answered key rows CountRows = let counts : (tally_of CountRows rows).count ≡ length rows = omega (arith, count_rows no_rows rows) in ap (λ n. Int (pos n)) counts
item_answered key rows (Count column) =
    let counts : (tally_of (Count column) rows).count ≡ length (present (map (λ row. cell_in row column) rows)) = omega (arith, count_values column no_rows rows) in
    ap (λ n. Int (pos n)) counts
item_answered key rows (Sum column) =
    let counts : (tally_of (Sum column) rows).count ≡ length (present (map (λ row. cell_in row column) rows)) = omega (arith, sum_counts column no_rows rows) in
    ap (λ n. if n == 0 then Null else Int (tally_of (Sum column) rows).sum) counts
    ∙ ap (λ total. if length (present (map (λ row. cell_in row column) rows)) == 0 then Null else Int total) (sum_sums column no_rows rows)

-- ---- groups by the keys that were found

-- groups of these keys, with the rows that a place has
abbrev made : List (List Value) → (ℕ → List Row) → List Group
made [] rows_at = []
made (key ∷ found) rows_at = record { key = key; rows = rows_at 0 } ∷ made found (λ place. rows_at (suc place))

made_alike : (found : List (List Value)) (f g : ℕ → List Row) → ((place : ℕ) → place < length found → f place ≡ g place) → made found f ≡ made found g
made_alike [] f g same = refl
made_alike (key ∷ found) f g same =
    ap (λ rows. record { key = key; rows = rows } ∷ made found (λ place. f (suc place))) (same 0 (omega arith))
    ∙ ap (λ rest. record { key = key; rows = g 0 } ∷ rest) (made_alike found (λ place. f (suc place)) (λ place. g (suc place)) (λ place low. same (suc place) (omega arith)))

-- the rows of a place, with a row more at this one
abbrev more_at : ℕ → Row → (ℕ → List Row) → ℕ → List Row
more_at here row rows_at place = rows_at place ++ (if here == place then row ∷ [] else [])

other_at : (here : ℕ) (row : Row) (rows_at : ℕ → List Row) (place : ℕ) → here ≢ place → more_at here row rows_at place ≡ rows_at place
other_at here row rows_at place other = rw (ne_eqb here place other) (append-nil (rows_at place))

shifted : (here place : ℕ) → nat_eq here place ≡ nat_eq (1 + here) (suc place)
shifted here place = by (nat_eq here place) refl
  where
    by : (t : Bool) → nat_eq here place ≡ t → nat_eq here place ≡ nat_eq (1 + here) (suc place)
    by true e = let same : here ≡ place = eqb-true here place e in e ∙ sym (eq-eqb (1 + here) (suc place) (omega arith))
    by false e = let other : here ≢ place = eqb-false here place e in e ∙ sym (ne_eqb (1 + here) (suc place) (λ (h : 1 + here ≡ suc place). other (omega arith)))

made_insert : (t : Bool) (k key : List Value) (found : List (List Value)) (f : ℕ → List Row) →
    made (cond t (k ∷ found) (k ∷ (found ++ key ∷ []))) f ≡ record { key = k; rows = f 0 } ∷ made (cond t found (found ++ key ∷ [])) (λ place. f (suc place))
made_insert true k key found f = refl
made_insert false k key found f = refl

-- a row joins the group of its key, or opens a last one
with_row_made : (key : List Value) (row : Row) (found : List (List Value)) (rows_at : ℕ → List Row) → rows_at (length found) ≡ [] →
    with_row key row (made found rows_at) ≡ made (insert_key same_key found key) (more_at (place_in found key) row rows_at)
with_row_made key row [] rows_at none = ap (λ rows. record { key = key; rows = rows ++ row ∷ [] } ∷ []) (sym none)
with_row_made key row (k ∷ found) rows_at none =
    by (with_row_made key row found (λ place. rows_at (suc place)) none) (same_key key k) refl
  where
    by : with_row key row (made found (λ place. rows_at (suc place))) ≡ made (insert_key same_key found key) (more_at (place_in found key) row (λ place. rows_at (suc place))) →
        (t : Bool) → same_key key k ≡ t →
        with_row key row (made (k ∷ found) rows_at) ≡ made (insert_key same_key (k ∷ found) key) (more_at (place_in (k ∷ found) key) row rows_at)
    by again true e =
        let turned : same_key k key ≡ true = same_key_laws.symm k key ∙ e in
        rw (turned, e) (ap (λ rest. record { key = k; rows = rows_at 0 ++ row ∷ [] } ∷ rest)
        (made_alike found (λ place. rows_at (suc place)) (λ place. more_at 0 row rows_at (suc place))
        (λ place low. sym (other_at 0 row rows_at (suc place) (λ (h : 0 ≡ suc place). omega arith)))))
    by again false e =
        let turned : same_key k key ≡ false = same_key_laws.symm k key ∙ e in
        let here = place_in found key in
        let ins = insert_key same_key found key in
        rw (turned, e) (ap (λ rest. record { key = k; rows = rows_at 0 } ∷ rest) again
        ∙ ap (λ rows. record { key = k; rows = rows } ∷ made ins (more_at here row (λ place. rows_at (suc place))))
        (sym (other_at (1 + here) row rows_at 0 (λ (h : 1 + here ≡ 0). omega arith)))
        ∙ ap (λ rest. record { key = k; rows = more_at (1 + here) row rows_at 0 } ∷ rest)
        (made_alike ins (more_at here row (λ place. rows_at (suc place))) (λ place. more_at (1 + here) row rows_at (suc place))
        (λ place low. ap (λ t. rows_at (suc place) ++ (if t then row ∷ [] else [])) (shifted here place)))
        ∙ sym (made_insert (list_any (same_key key) found) k key found (more_at (1 + here) row rows_at)))

-- one row more
step_made : (keys : List ℕ) (done : List Row) (row : Row) →
    with_row (key_in keys row) row (made (found_in keys done) (share keys (found_in keys done) done))
    ≡ made (found_in keys (done ++ row ∷ [])) (share keys (found_in keys (done ++ row ∷ [])) (done ++ row ∷ []))
step_made keys done row =
    let key = key_in keys row in
    let found = found_in keys done in
    let ins = insert_key same_key found key in
    let all = all_found keys (first_found keys) done in
    with_row_made key row found (share keys found done) (share_none keys found done (length found) (omega arith) all)
    ∙ made_alike ins (more_at (place_in found key) row (share keys found done)) (share keys ins (done ++ row ∷ []))
    (λ place low. sym (share_more keys ins done (row ∷ []) place
    ∙ ap (λ rows. rows ++ share keys ins (row ∷ []) place) (share_kept keys found (row ∷ []) done place all)
    ∙ ap (λ here. share keys found done place ++ (if here == place then row ∷ [] else [])) (place_inserted found key).0))
    ∙ ap (λ f. made f (share keys f (done ++ row ∷ []))) (sym (found_more keys (first_found keys) done (row ∷ [])))

walk_made : (key : ℕ) (keys : List ℕ) (done rest : List Row) →
    fold (λ groups row. with_row (map (cell_in row) (key ∷ keys)) row groups) (made (found_in (key ∷ keys) done) (share (key ∷ keys) (found_in (key ∷ keys) done) done)) rest
    ≡ made (found_in (key ∷ keys) (done ++ rest)) (share (key ∷ keys) (found_in (key ∷ keys) (done ++ rest)) (done ++ rest))
walk_made key keys done [] = ap (λ rows. made (found_in (key ∷ keys) rows) (share (key ∷ keys) (found_in (key ∷ keys) rows) rows)) (sym (append-nil done))
walk_made key keys done (row ∷ rest) =
    ap (λ groups. fold (λ groups row. with_row (map (cell_in row) (key ∷ keys)) row groups) groups rest) (step_made (key ∷ keys) done row)
    ∙ walk_made key keys (done ++ row ∷ []) rest
    ∙ ap (λ rows. made (found_in (key ∷ keys) rows) (share (key ∷ keys) (found_in (key ∷ keys) rows) rows)) (append_assoc done (row ∷ []) rest)

-- without columns the key is found, whatever the rows
pub alone_in : (rows : List Row) → ([] ∷ []) ≡ found_in [] rows
alone_in [] = refl
alone_in (row ∷ rows) = alone_in rows

alone_share : (rows : List Row) → share [] ([] ∷ []) rows 0 ≡ rows
alone_share [] = refl
alone_share (row ∷ rows) = ap (λ rest. row ∷ rest) (alone_share rows)

-- the groups of rows are those of the keys that are found in them
grouped : (keys : List ℕ) (rows : List Row) → groups_by keys rows ≡ made (found_in keys rows) (share keys (found_in keys rows) rows)
grouped [] rows =
    subst (λ (found : List (List Value)). groups_by [] rows ≡ made found (share [] found rows)) (alone_in rows)
    (ap (λ rows. record { key = []; rows = rows } ∷ []) (sym (alone_share rows)))
grouped (key ∷ keys) rows = walk_made key keys [] rows

-- ---- rows of the answer

ranged : {X Y : Type 0} (xs : List X) (d : X) (h : ℕ → Y) (f : X → Y) (a : ℕ) → ((i : ℕ) → i < length xs → h (a + i) ≡ f (get_or xs i d)) →
    map h (range_with_len a (length xs)) ≡ map f xs
ranged [] d h f a same = refl
ranged (x ∷ xs) d h f a same =
    let first : h a ≡ f x = ap h (omega arith) ∙ same 0 (omega arith) in
    ap (λ y. y ∷ map h (range_with_len (a + 1) (length xs))) first
    ∙ ap (λ ys. f x ∷ ys) (ranged xs d h f (a + 1) (λ i low. let moved : (a + 1) + i ≡ a + suc i = omega arith in ap h moved ∙ same (suc i) (omega arith)))

made_long : (found : List (List Value)) (f : ℕ → List Row) → length (made found f) ≡ length found
made_long [] f = refl
made_long (key ∷ found) f = ap suc (made_long found (λ place. f (suc place)))

made_at : (found : List (List Value)) (f : ℕ → List Row) (place : ℕ) (d : Group) → place < length found →
    get_or (made found f) place d ≡ record { key = get_or found place []; rows = f place }
made_at [] f place d low = absurd (omega arith)
made_at (key ∷ found) f zero d low = refl
made_at (key ∷ found) f (suc place) d low = made_at found (λ place. f (suc place)) place d (omega arith)

pub held_answers : HeldAnswersAreGroups
held_answers groups rows held =
    let f = share groups.keys groups.found rows in
    let all = made groups.found f in
    let none : Group = record { key = []; rows = [] } in
    let cell : (group item : ℕ) → group < length groups.found → item < length groups.items →
    cell_at groups group item ≡ answered (record { key = get_or groups.found group []; rows = f group }) (get_or groups.items item (Key 0)) =
    λ group item low there.
    ap (item_value (get_or groups.found group []) (get_or groups.items item (Key 0))) ((held.tallied item there).each group low)
    ∙ item_answered (get_or groups.found group []) (f group) (get_or groups.items item (Key 0)) in
    let row : (group : ℕ) → group < length groups.found →
    group_row groups group ≡ map (answered (record { key = get_or groups.found group []; rows = f group })) groups.items =
    λ group low. ranged groups.items (Key 0) (cell_at groups group) (answered (record { key = get_or groups.found group []; rows = f group })) 0
    (λ item there. let same : 0 + item ≡ item = omega arith in ap (cell_at groups group) same ∙ cell group item low there) in
    ap (λ n. map (group_row groups) (range_with_len 0 n)) (sym (made_long groups.found f))
    ∙ ranged all none (group_row groups) (λ (group : Group). map (answered group) groups.items) 0
    (λ place low.
    let there : place < length groups.found = omega (arith, made_long groups.found f) in
    let same : 0 + place ≡ place = omega arith in
    ap (group_row groups) same ∙ row place there ∙ ap (λ (group : Group). map (answered group) groups.items) (sym (made_at groups.found f place none there)))
    ∙ ap (map (λ (group : Group). map (answered group) groups.items))
    (sym (grouped groups.keys rows ∙ ap (λ found. made found (share groups.keys found rows)) (sym held.found)))
