-- Tallies of rows of one group that stand next to each other.
use Rattle.std.proofs.Common.{◌≡◌, ◌≤◌, ◌<◌, ℕ, zero, suc, ◌+◌, ◌-◌, ℤ, pos, Bool, true, false, not, List, [], ◌∷◌, ◌++◌, length, map, get_or, slice_set, replicate, cond, refl, sym, ap, ◌∙◌, subst, arith}
use Rattle.std.specs.List.{filter, fold, range_with_len}
use Rattle.std.proofs.Math.IntN.{+ℤ_idl}
use Rattle.std.proofs.lemmas.Int.{ints}
use Rattle.std.proofs.lemmas.List.{get_or-replicate, length-append}
use Rattle.std.proofs.lemmas.List.Filters.{length-filter_both}
use Rattle.std.proofs.lemmas.List.FromFn.{filter_of_map_range_with_len_more, get_or-range_with_len, length-map-range_with_len, length-range_with_len, map-range_with_len_more}
use Rattle.std.proofs.lemmas.List.Sums.{fold-append}
use Rattle.scan_base.specs.declared.value.Value.{Value}
use Rattle.scan_base.specs.declared.value.Value.TheVariants.{Null, Bool as Flag, Int, Text}
use Rattle.scan_base.specs.Predicate.{cell_in}
use Rattle.scan_base.specs.Value.{is_null}
use Rattle.arrays.specs.Batch.{row_of}
use Rattle.arrays.specs.Column.{ColumnAt, cut, slot_of, values_of}
use Rattle.arrays.specs.Layout.{layout_slot}
use Rattle.arrays.specs.Nulls.{null_count}
use Rattle.table_versions.specs.Table.{Row}
use Rattle.typed_plan.specs.declared.plan.Aggregate.{Aggregate}
use Rattle.typed_plan.specs.declared.plan.Aggregate.TheVariants.{Key, CountRows, Count}
use Rattle.group_slots.specs.declared.tally.Tally.{Tally}
use Rattle.group_slots.specs.Adding.{IsAdded}
use Rattle.group_slots.specs.Counting.{AreWithin, IsSmall, stepped}
use Rattle.group_slots.specs.HeldTallies.{count_tally, count_tallies}
use Rattle.group_slots.specs.RowSpans.{IsTallyOf}
use Rattle.group_slots.specs.Tallies.{no_rows, added, both, counted, tally_of}
use Rattle.group_slots.proofs.Both.{fold_both}
use Rattle.group_slots.proofs.Counted.{count_small}
use Rattle.group_slots.proofs.Slotted.{cell_slot}

-- ---- the tally of the only group

one_group : (item : Aggregate) (columns : List ColumnAt) (from n : ℕ) (tally : Tally) (k : ℕ) → k ≤ n →
    stepped item columns (replicate n 0) (range_with_len from n) (tally ∷ []) k ≡ fold (added item) tally (map (row_of columns) (range_with_len from k)) ∷ []
one_group item columns from n tally zero h = refl
one_group item columns from n tally (suc k) h =
    let group : get_or (replicate n 0) k 0 ≡ 0 = get_or-replicate n k 0 0 (omega (arith, h)) in
    let row : get_or (range_with_len from n) k 0 ≡ from + k = get_or-range_with_len from n k 0 (omega (arith, h)) in
    let rows = map (row_of columns) (range_with_len from k) in
    let one : suc k ≡ k + 1 = omega arith in
    let more : fold (added item) tally (map (row_of columns) (range_with_len from (suc k))) ≡ added item (fold (added item) tally rows) (row_of columns (from + k)) =
    ap (λ (m : ℕ). fold (added item) tally (map (row_of columns) (range_with_len from m))) one
    ∙ ap (fold (added item) tally) (map-range_with_len_more (row_of columns) from k (from + k) refl)
    ∙ fold-append (added item) tally rows (row_of columns (from + k) ∷ []) in
    let before = one_group item columns from n tally k (omega (arith, h)) in
    (λ i. slice_set (before i) (group i) (added item (get_or (before i) (group i) no_rows) (row_of columns (row i))))
    ∙ ap (λ (t : Tally). t ∷ []) (sym more)

-- rows of the only group are added to its tally
pub added_one : (item : Aggregate) (columns : List ColumnAt) (from n : ℕ) (before after : List Tally) → length before ≡ 1 →
    after ≡ both (get_or before 0 no_rows) (tally_of item (map (row_of columns) (range_with_len from n))) ∷ [] →
    IsAdded item columns (range_with_len from n) (replicate n 0) 1 before after
added_one item columns from n [] after one is = absurd (omega (arith, one))
added_one item columns from n (tally ∷ other ∷ rest) after one is = absurd (omega (arith, one))
added_one item columns from n (tally ∷ []) after one is =
    let rows = map (row_of columns) (range_with_len from n) in
    record {
      padded = tally ∷ [];
      long = refl;
      same = λ group low. refl;
      stepped = is ∙ ap (λ (t : Tally). t ∷ []) (sym (fold_both item tally rows))
          ∙ sym (one_group item columns from n tally n (omega arith))
          ∙ ap (stepped item columns (replicate n 0) (range_with_len from n) (tally ∷ [])) (sym (length-range_with_len from n));
    }

-- one small tally counts as many as were fed
pub one_within : (most : ℕ) (tally : Tally) → tally.count ≤ most → IsSmall tally → AreWithin most (tally ∷ [])
one_within most tally few small = record { few = omega (arith, few); small = λ group low. at group low }
  where
    at : (group : ℕ) → group < 1 → IsSmall (get_or (tally ∷ []) group no_rows)
    at zero low = small
    at (suc group) low = absurd (omega (arith, low))

-- the only tally of those of one group
pub the_one : (most : ℕ) (tallies : List Tally) → length tallies ≡ 1 → AreWithin most tallies →
    (tallies ≡ get_or tallies 0 no_rows ∷ []) × ((get_or tallies 0 no_rows).count ≤ most) × IsSmall (get_or tallies 0 no_rows)
the_one most [] one within = absurd (omega (arith, one))
the_one most (tally ∷ other ∷ rest) one within = absurd (omega (arith, one))
the_one most (tally ∷ []) one within = (refl, omega (arith, within.few), within.small 0 (omega arith))

-- ---- rows of an item that is no sum

pub key_rows : (place : ℕ) (tally : Tally) (rows : List Row) → fold (added (Key place)) tally rows ≡ tally
key_rows place tally [] = refl
key_rows place tally (row ∷ rows) = key_rows place tally rows

pub all_rows : (n : ℕ) (rows : List Row) → fold (added CountRows) (count_tally n) rows ≡ count_tally (n + length rows)
all_rows n [] = ap count_tally (omega arith)
all_rows n (row ∷ rows) = all_rows (n + 1) rows ∙ ap count_tally (omega arith)

-- a value more
one_value : (n : ℕ) (value : Value) → counted (count_tally n) value ≡ count_tally (n + cond (not (is_null value)) 1 0)
one_value n Null = ap count_tally (omega arith)
one_value n (Flag flag) = refl
one_value n (Int number) = refl
one_value n (Text text) = refl

passed : {X : Type 0} (p : X → Bool) (x : X) (xs : List X) → length (filter p (x ∷ xs)) ≡ cond (p x) 1 0 + length (filter p xs)
passed p x xs = by (p x)
  where
    by : (b : Bool) → length (cond b (x ∷ filter p xs) (filter p xs)) ≡ cond b 1 0 + length (filter p xs)
    by true = omega arith
    by false = omega arith

abbrev has_value : ℕ → Row → Bool
has_value column row = not (is_null (cell_in row column))

counted_rows : (column n : ℕ) (rows : List Row) → fold (added (Count column)) (count_tally n) rows ≡ count_tally (n + length (filter (has_value column) rows))
counted_rows column n [] = ap count_tally (omega arith)
counted_rows column n (row ∷ rows) =
    let one = passed (has_value column) row rows in
    let all : n + cond (has_value column row) 1 0 + length (filter (has_value column) rows) ≡ n + length (filter (has_value column) (row ∷ rows)) = omega (arith, one) in
    ap (λ (t : Tally). fold (added (Count column)) t rows) (one_value n (cell_in row column))
    ∙ counted_rows column (n + cond (has_value column row) 1 0) rows
    ∙ ap count_tally all

-- ---- values, and nulls

both_sides : (v : Bool) → cond (not v) 1 0 + cond v 1 0 ≡ 1
both_sides true = refl
both_sides false = refl

chosen : {X : Type 0} (b : Bool) (x : X) → length (cond b (x ∷ []) []) ≡ cond b 1 0
chosen true x = refl
chosen false x = refl

-- each of so many rows has a value, or is null in the column
values_and_nulls : (columns : List ColumnAt) (column from : ℕ) (part : ColumnAt) (n : ℕ) →
    ((k : ℕ) → k < n → cell_in (row_of columns (from + k)) column ≡ slot_of part k) →
    length (filter (has_value column) (map (row_of columns) (range_with_len from n))) + length (filter is_null (map (slot_of part) (range_with_len 0 n))) ≡ n
values_and_nulls columns column from part zero same = refl
values_and_nulls columns column from part (suc n) same =
    let one : suc n ≡ n + 1 = omega arith in
    let v = is_null (slot_of part n) in
    let row = row_of columns (from + n) in
    let rows = map (row_of columns) (range_with_len from n) in
    let slots = map (slot_of part) (range_with_len 0 n) in
    let before = values_and_nulls columns column from part n (λ k low. same k (omega (arith, low))) in
    let is : is_null (cell_in row column) ≡ v = ap is_null (same n (omega arith)) in
    let left : length (filter (has_value column) (map (row_of columns) (range_with_len from (n + 1)))) ≡ length (filter (has_value column) rows) + cond (not v) 1 0 =
    ap length (filter_of_map_range_with_len_more (has_value column) (row_of columns) from n (from + n) refl)
    ∙ length-append (filter (has_value column) rows) (cond (has_value column row) (row ∷ []) [])
    ∙ ap (λ (m : ℕ). length (filter (has_value column) rows) + m) (chosen (has_value column row) row ∙ ap (λ (b : Bool). cond (not b) 1 0) is) in
    let right : length (filter is_null (map (slot_of part) (range_with_len 0 (n + 1)))) ≡ length (filter is_null slots) + cond v 1 0 =
    ap length (filter_of_map_range_with_len_more is_null (slot_of part) 0 n n (omega arith))
    ∙ length-append (filter is_null slots) (cond v (slot_of part n ∷ []) [])
    ∙ ap (λ (m : ℕ). length (filter is_null slots) + m) (chosen v (slot_of part n)) in
    ap (λ (m : ℕ). length (filter (has_value column) (map (row_of columns) (range_with_len from m))) + length (filter is_null (map (slot_of part) (range_with_len 0 m)))) one
    ∙ omega (arith, left, right, before, both_sides v)

-- the values of a part of a column are as many as its nulls leave
pub values_of_part : (columns : List ColumnAt) (column from n count : ℕ) (part : ColumnAt) → part.len ≡ n →
    ((k : ℕ) → k < n → cell_in (row_of columns (from + k)) column ≡ slot_of part k) → count ≡ n - null_count part →
    count_tally count ≡ tally_of (Count column) (map (row_of columns) (range_with_len from n))
values_of_part columns column from n count part long same is =
    let rows = map (row_of columns) (range_with_len from n) in
    let all = values_and_nulls columns column from part n same in
    let nulls : null_count part ≡ length (filter is_null (map (slot_of part) (range_with_len 0 n))) =
    ap (λ (m : ℕ). length (filter is_null (map (slot_of part) (range_with_len 0 m)))) long in
    let counted : count ≡ 0 + length (filter (has_value column) rows) = omega (arith, is, all, nulls) in
    ap count_tally counted ∙ sym (counted_rows column 0 rows)

-- no more slots are null than there are
pub nulls_within : (column : ColumnAt) → null_count column ≤ column.len
nulls_within column = omega (arith, length-filter_both is_null (λ (value : Value). not (is_null value)) (λ value. refl) (values_of column), length-map-range_with_len (slot_of column) 0 column.len)

-- the values of the rows of a whole column
pub values_of_whole : (columns : List ColumnAt) (column from to rows count : ℕ) (found : ColumnAt) → column < length columns → found ≡ get_or columns column found → found.len ≡ rows →
    from ≤ to → to ≤ rows → to - from ≡ found.len → count ≡ found.len - null_count found →
    count_tally count ≡ tally_of (Count column) (map (row_of columns) (range_with_len from (to - from)))
values_of_whole columns column from to rows count found there is long ordered within all made =
    values_of_part columns column from (to - from) count found (sym all)
    (λ k low.
    let place : from + k ≡ k = omega (arith, long, ordered, within, all) in
    cell_slot columns (from + k) column found there ∙ ap (λ (c : ColumnAt). slot_of c (from + k)) (sym is) ∙ ap (slot_of found) place)
    (made ∙ ap (λ (n : ℕ). n - null_count found) (sym all))

-- and of rows that are cut from it
pub values_of_cut : (columns : List ColumnAt) (column from to count : ℕ) (found part : ColumnAt) → column < length columns → found ≡ get_or columns column found →
    part ≡ cut found from to → count ≡ part.len - null_count part →
    count_tally count ≡ tally_of (Count column) (map (row_of columns) (range_with_len from (to - from)))
values_of_cut columns column from to count found part there is cut_is made =
    let long : part.len ≡ to - from = ap (λ (c : ColumnAt). c.len) cut_is in
    values_of_part columns column from (to - from) count part long
    (λ k low.
    let place : found.first + (from + k) ≡ found.first + from + k = omega arith in
    cell_slot columns (from + k) column found there ∙ ap (λ (c : ColumnAt). slot_of c (from + k)) (sym is)
    ∙ ap (layout_slot found.layout) place ∙ ap (λ (c : ColumnAt). slot_of c k) (sym cut_is))
    (made ∙ ap (λ (n : ℕ). n - null_count part) long)

-- ---- one row more

-- a tally of rows, and of one more
pub tally_more : (item : Aggregate) (columns : List ColumnAt) (from n row m : ℕ) (tally new : Tally) → from + n ≡ row → m ≡ n + 1 →
    IsTallyOf item (map (row_of columns) (range_with_len from n)) tally → new ≡ added item tally (row_of columns row) → new.count ≤ tally.count + 1 → IsSmall new →
    IsTallyOf item (map (row_of columns) (range_with_len from m)) new
tally_more item columns from n row m tally new at one so made few small =
    let rows = map (row_of columns) (range_with_len from n) in
    let more : map (row_of columns) (range_with_len from (n + 1)) ≡ rows ++ row_of columns row ∷ [] = map-range_with_len_more (row_of columns) from n row at in
    subst (λ (k : ℕ). IsTallyOf item (map (row_of columns) (range_with_len from k)) new) (sym one)
    (subst (λ (rs : List Row). IsTallyOf item rs new) (sym more)
    (record {
      is = made ∙ ap (λ (t : Tally). added item t (row_of columns row)) so.is ∙ sym (fold-append (added item) no_rows rows (row_of columns row ∷ []));
      few = omega (arith, few, so.few, length-append rows (row_of columns row ∷ []));
      small = small;
    }))

-- of no row
pub tally_none : (item : Aggregate) (columns : List ColumnAt) (from n : ℕ) (tally : Tally) → n ≡ 0 → tally ≡ no_rows → IsTallyOf item (map (row_of columns) (range_with_len from n)) tally
tally_none item columns from n tally none is =
    subst (λ (k : ℕ). IsTallyOf item (map (row_of columns) (range_with_len from k)) tally) (sym none)
    (record {
      is = is;
      few = omega (arith, ap (λ (t : Tally). t.count) is);
      small = subst IsSmall (sym is) (record { low = omega (arith, ints); high = omega (arith, ints) });
    })

-- ---- the tally of an item that is no sum

-- of a key nothing is kept
pub key_tally : (item : Aggregate) (place : ℕ) (rows : List Row) (tally : Tally) → item ≡ Key place → tally ≡ no_rows → IsTallyOf item rows tally
key_tally item place rows tally is none =
    subst (λ (i : Aggregate). IsTallyOf i rows tally) (sym is)
    (record {
      is = none ∙ sym (key_rows place no_rows rows);
      few = omega (arith, ap (λ (t : Tally). t.count) none);
      small = subst IsSmall (sym none) (count_small 0);
    })

-- each row counts
pub rows_tally : (item : Aggregate) (columns : List ColumnAt) (from n : ℕ) (tally : Tally) → item ≡ CountRows → tally ≡ count_tally n →
    IsTallyOf item (map (row_of columns) (range_with_len from n)) tally
rows_tally item columns from n tally is made =
    let rows = map (row_of columns) (range_with_len from n) in
    let long : 0 + length rows ≡ n = omega (arith, length-map-range_with_len (row_of columns) from n) in
    subst (λ (i : Aggregate). IsTallyOf i rows tally) (sym is)
    (record {
      is = made ∙ ap count_tally (sym long) ∙ sym (all_rows 0 rows);
      few = omega (arith, ap (λ (t : Tally). t.count) made, long);
      small = subst IsSmall (sym made) (count_small n);
    })

-- each value counts
pub values_tally : (item : Aggregate) (column : ℕ) (columns : List ColumnAt) (from n count : ℕ) (tally : Tally) → item ≡ Count column → tally ≡ count_tally count →
    count_tally count ≡ tally_of (Count column) (map (row_of columns) (range_with_len from n)) → count ≤ n →
    IsTallyOf item (map (row_of columns) (range_with_len from n)) tally
values_tally item column columns from n count tally is made counted few =
    let rows = map (row_of columns) (range_with_len from n) in
    subst (λ (i : Aggregate). IsTallyOf i rows tally) (sym is)
    (record {
      is = made ∙ counted;
      few = omega (arith, ap (λ (t : Tally). t.count) made, few, length-map-range_with_len (row_of columns) from n);
      small = subst IsSmall (sym made) (count_small count);
    })

-- ---- the only tally, with those of the rows

-- the rows are added, where the tally of them is
pub span_added : (item : Aggregate) (columns : List ColumnAt) (from n : ℕ) (before after : List Tally) (more : Tally) → length before ≡ 1 →
    after ≡ both (get_or before 0 no_rows) more ∷ [] → IsTallyOf item (map (row_of columns) (range_with_len from n)) more →
    IsAdded item columns (range_with_len from n) (replicate n 0) 1 before after
span_added item columns from n before after more one made so =
    added_one item columns from n before after one (made ∙ ap (λ (t : Tally). both (get_or before 0 no_rows) t ∷ []) so.is)

both_small : (a b : Tally) → IsSmall a → IsSmall b → IsSmall (both a b)
both_small a b small other = record { low = omega (arith, ints, small.low, other.low); high = omega (arith, ints, small.high, other.high) }

-- and it is no larger than that of as many as were fed
pub span_within : (item : Aggregate) (columns : List ColumnAt) (from n fed : ℕ) (before after : List Tally) (more : Tally) → length before ≡ 1 →
    after ≡ both (get_or before 0 no_rows) more ∷ [] → IsTallyOf item (map (row_of columns) (range_with_len from n)) more → AreWithin fed before →
    AreWithin (fed + n) after
span_within item columns from n fed before after more one made so within =
    let old = the_one fed before one within in
    let few : (get_or before 0 no_rows).count + more.count ≤ fed + n = omega (arith, old.1, so.few, length-map-range_with_len (row_of columns) from n) in
    subst (AreWithin (fed + n)) (sym made)
    (one_within (fed + n) (both (get_or before 0 no_rows) more) few (both_small (get_or before 0 no_rows) more old.2 so.small))

abbrev tally_at : ℕ → ℤ → Tally
tally_at count sum = record { count = count; sum = sum }

-- the only count with more, as a tally
pub count_made : (counts new : List ℕ) (more : Tally) → length counts ≡ 1 → new ≡ (get_or counts 0 0 + more.count) ∷ [] → more.sum ≡ pos 0 →
    count_tallies new ≡ both (get_or (count_tallies counts) 0 no_rows) more ∷ []
count_made [] new more one is none = absurd (omega (arith, one))
count_made (a ∷ b ∷ counts) new more one is none = absurd (omega (arith, one))
count_made (a ∷ []) new more one is none =
    ap count_tallies is
    ∙ ap (λ (sum : ℤ). tally_at (a + more.count) sum ∷ []) (sym (+ℤ_idl more.sum ∙ none))

-- the only count
pub the_count : (counts : List ℕ) → length counts ≡ 1 → (get_or (count_tallies counts) 0 no_rows).count ≡ get_or counts 0 0
the_count [] one = absurd (omega (arith, one))
the_count (a ∷ b ∷ counts) one = absurd (omega (arith, one))
the_count (a ∷ []) one = refl
