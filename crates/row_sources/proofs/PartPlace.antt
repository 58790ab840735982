-- The rows of one batch of a place.
use Rattle.std.proofs.Common.{◌≡◌, ◌≤◌, ◌<◌, ◌⊎◌, inl, inr, ℕ, zero, suc, ◌+◌, ◌-◌, Bool, true, false, List, [], ◌∷◌, length, map, take, max, min, slice_get, Option, Some, refl, sym, ap, ◌∙◌, subst, arith, append-nil}
use Rattle.std.specs.List.{filter, flat_map, range_with_len, zip}
use Rattle.std.specs.Option.{option_to_list}
use Rattle.std.proofs.lemmas.Bool.{cases_Bool, cases_lt, lt-ltb}
use Rattle.std.proofs.lemmas.List.{take_all}
use Rattle.std.proofs.lemmas.List.FromFn.{length-range_with_len}
use Rattle.std.proofs.lemmas.Simd.{map-map}
use Rattle.arrays.specs.Batch.{BatchAt, rows_of}
use Rattle.table_versions.specs.Standing.{rows_before}
use Rattle.table_versions.specs.StoredTables.{TableAt, table_of}
use Rattle.table_versions.specs.Table.{Row}
use Rattle.table_versions.proofs.Rowing.{length-rows_of, rows-cons}
use Rattle.typed_plan.specs.JoinedRows.{rows_between}
use Rattle.batch_skipping.specs.Narrow.{BeginsInFirst}
use Rattle.batch_skipping.specs.OpenedBatches.{has_row_in, batches_in}
use Rattle.row_sources.specs.declared.cursor.Cursor.{Cursor}
use Rattle.row_sources.specs.Parts.{parts, numbered_parts, numbered_rows}
use Rattle.row_sources.specs.Parting.{ComeInOrder, of_number, part_of}
use Rattle.row_sources.specs.PlaceCursor.{begin_in, end_in, IsPlaced, Begins, rows_ahead}
use Rattle.row_sources.specs.Running.{RowsAt}
use Rattle.row_sources.proofs.ByNumber.{counted, counted_all, counted_at, with_number}
use Rattle.row_sources.proofs.Narrowing.{there_at}
use Rattle.row_sources.proofs.NarrowRange.{before_next, between_same, in_range}
use Rattle.row_sources.proofs.Opening.{grows, none_in}
use Rattle.row_sources.proofs.Piecing.{place_of}

-- ---- the rows of a range, batch by batch

parts_many : (from to : ℕ) (batches : List BatchAt) → length (parts from to batches) ≡ length batches
parts_many from to [] = refl
parts_many from to (batch ∷ batches) = ap suc (parts_many (from - batch.rows) (to - batch.rows) batches)

-- the part of a batch
part_is : (from to i a b : ℕ) (batches : List BatchAt) (batch : BatchAt) → slice_get batches i ≡ Some batch →
    a ≡ from - rows_before batches i → b ≡ to - rows_before batches i → slice_get (parts from to batches) i ≡ Some (rows_between a b (rows_of batch))
part_is from to i a b [] batch there f t = cc
part_is from to zero a b (first ∷ batches) batch there f t =
    let same : first ≡ batch = cc in
    let low : a ≡ from = omega (arith, f) in
    let high : b ≡ to = omega (arith, t) in
    rw (low, high) (ap (λ (one : BatchAt). Some (rows_between from to (rows_of one))) same)
part_is from to (suc i) a b (first ∷ batches) batch there f t =
    let long = rows-cons first (take i batches) in
    part_is (from - first.rows) (to - first.rows) i a b batches batch there (omega (arith, f, long)) (omega (arith, t, long))

module _ (from to : ℕ) (batches : List BatchAt) where
  abbrev rows_in : List (ℕ × Row)
  rows_in = numbered_rows (numbered_parts from to batches)

  parts_are : counted 0 (parts from to batches) ≡ rows_in
  parts_are = ap (λ (n : ℕ). numbered_rows (zip (range_with_len 0 n) (parts from to batches))) (parts_many from to batches)

  -- they come batch by batch
  pub place_order : rows_in ≡ flat_map (λ number. of_number number rows_in) (range_with_len 0 (length batches))
  place_order =
      subst (λ (rows : List (ℕ × Row)). rows ≡ flat_map (λ number. of_number number rows) (range_with_len 0 (length batches))) parts_are
      (subst (λ (n : ℕ). counted 0 (parts from to batches) ≡ flat_map (λ number. of_number number (counted 0 (parts from to batches))) (range_with_len 0 n))
      (parts_many from to batches) (counted_all 0 (parts from to batches)))

  -- those of one batch
  pub place_number : (i a b : ℕ) (batch : BatchAt) → slice_get batches i ≡ Some batch → a ≡ from - rows_before batches i → b ≡ to - rows_before batches i →
      of_number i rows_in ≡ with_number i (rows_between a b (rows_of batch))
  place_number i a b batch there f t =
      let here : 0 + i ≡ i = omega arith in
      ap (of_number i) (sym parts_are)
      ∙ subst (λ (n : ℕ). of_number n (counted 0 (parts from to batches)) ≡ with_number n (rows_between a b (rows_of batch))) here
      (counted_at 0 i (parts from to batches) (rows_between a b (rows_of batch)) (part_is from to i a b batches batch there f t))

-- ---- each batch has a row of the range

-- a test that leaves out no number of a range is true of each
filter_few : (test : ℕ → Bool) (first n : ℕ) → length (filter test (range_with_len first n)) ≤ n
filter_few test first zero = omega arith
filter_few test first (suc n) = by (cases_Bool (test first)) (filter_few test (first + 1) n)
  where
    by : (test first ≡ true) ⊎ (test first ≡ false) → length (filter test (range_with_len (first + 1) n)) ≤ n → length (filter test (range_with_len first (suc n))) ≤ suc n
    by (inl on) rest = rw on (omega (arith, rest))
    by (inr off) rest = rw off (omega (arith, rest))

all_pass : (test : ℕ → Bool) (first n i : ℕ) → n ≤ length (filter test (range_with_len first n)) → first ≤ i → i < first + n → test i ≡ true
all_pass test first zero i all low high = absurd (omega (arith, low, high))
all_pass test first (suc n) i all low high =
    by (cases_Bool (test first)) (filter_few test (first + 1) n) (λ more up. all_pass test (first + 1) n i more up (omega (arith, high)))
    (one first i low)
  where
    one : (first i : ℕ) → first ≤ i → (first ≡ i) ⊎ (first + 1 ≤ i)
    one first i low = which (cases_lt first i)
      where
        which : (first < i) ⊎ (i ≤ first) → (first ≡ i) ⊎ (first + 1 ≤ i)
        which (inl less) = inr (omega (arith, less))
        which (inr more) = inl (omega (arith, low, more))

    by : (test first ≡ true) ⊎ (test first ≡ false) → length (filter test (range_with_len (first + 1) n)) ≤ n →
        (n ≤ length (filter test (range_with_len (first + 1) n)) → first + 1 ≤ i → test i ≡ true) → (first ≡ i) ⊎ (first + 1 ≤ i) → test i ≡ true
    by (inl on) few rest (inl same) = ap test (sym same) ∙ on
    by (inl on) few rest (inr up) =
        let long : suc n ≤ suc (length (filter test (range_with_len (first + 1) n))) = rw on at all in
        rest (omega (arith, long)) up
    by (inr off) few rest other =
        let long : suc n ≤ length (filter test (range_with_len (first + 1) n)) = rw off at all in
        absurd (omega (arith, long, few))

pub each_in : (from to : ℕ) (batches : List BatchAt) (i : ℕ) → batches_in from to batches ≡ range_with_len 0 (length batches) → i < length batches →
    has_row_in from to batches i ≡ true
each_in from to batches i each there =
    all_pass (has_row_in from to batches) 0 (length batches) i (omega (arith, ap length each, length-range_with_len 0 (length batches))) (omega arith) (omega (arith, there))

-- ---- the range in one batch

module _ (table : TableAt) (cursor : Cursor) (is : IsPlaced table cursor) (i : ℕ) (there : i < length table.batches) where
  abbrev batches : List BatchAt
  batches = table.batches

  here : (cursor.from < rows_before batches (i + 1)) × (rows_before batches i < cursor.to) × (rows_before batches i < rows_before batches (i + 1)) × (cursor.from < cursor.to)
  here = in_range cursor.from cursor.to batches i (each_in cursor.from cursor.to batches i is.each there)

  -- the first of its rows in the range
  pub begins_at : (i ≡ 0) ⊎ (0 < i) → (i ≡ 0 → cursor.from ≡ begin_in table cursor i) × (0 < i → 0 ≡ begin_in table cursor i)
  begins_at (inl first) =
      let none : rows_before batches i ≡ 0 = ap (rows_before batches) first in
      (λ _. omega (arith, none), λ more. absurd (omega (arith, first, more)))
  begins_at (inr later) =
      let first = in_range cursor.from cursor.to batches 0 (each_in cursor.from cursor.to batches 0 is.each (omega (arith, there))) in
      let order = grows batches (0 + 1) i (omega (arith, later)) in
      (λ none. absurd (omega (arith, none, later)), λ _. omega (arith, first.0, order))

  module _ (batch : BatchAt) (found : slice_get batches i ≡ Some batch) where
    next : rows_before batches (i + 1) ≡ rows_before batches i + batch.rows
    next = before_next cursor.from cursor.to batches i batch found

    -- the range goes on after a batch that is not the last
    pub ends_later : i + 1 < length batches → batch.rows ≡ end_in table cursor i
    ends_later more =
        let behind = in_range cursor.from cursor.to batches (i + 1) (each_in cursor.from cursor.to batches (i + 1) is.each more) in
        omega (arith, behind.1, next)

    -- and ends in the last one
    pub ends_last : length batches ≤ i + 1 → (rows_before batches i + batch.rows ≡ length (table_of table).rows) × (rows_before batches i < cursor.to)
    ends_last last =
        let all = ap (λ (some : List BatchAt). length (flat_map rows_of some)) (take_all (i + 1) batches last) in
        (omega (arith, all, next), here.1)

    pub ends_at : length batches ≤ i + 1 → (rows : ℕ) → rows ≡ length (table_of table).rows → cursor.to ≤ length (table_of table).rows →
        batch.rows - (rows - cursor.to) ≡ end_in table cursor i
    ends_at last rows size few = omega (arith, ends_last last, size, few, next, here.1)

    -- ---- as rows of a table of this batch alone

    abbrev pub one : TableAt
    one = record table { batches = batch ∷ [] }

    one_long : rows_before (batch ∷ []) 1 ≡ batch.rows
    one_long = rows-cons batch [] ∙ omega arith

    -- some rows of it are in the range
    pub some_in : begin_in table cursor i < end_in table cursor i
    some_in = omega (arith, here, next)

    pub begin_first : BeginsInFirst (begin_in table cursor i) (batch ∷ [])
    begin_first = inr (omega (arith, here, next, one_long))

    pub end_few : end_in table cursor i ≤ length (flat_map rows_of (batch ∷ []))
    end_few = omega (arith, next, one_long)

    pub one_in : batches_in (begin_in table cursor i) (end_in table cursor i) (batch ∷ []) ≡ 0 ∷ []
    one_in =
        rw (lt-ltb (max (rows_before (batch ∷ []) 0) (begin_in table cursor i)) (min (rows_before (batch ∷ []) (0 + 1)) (end_in table cursor i))
        (omega (arith, here, next, one_long))) refl

    -- where no batch was opened
    module _ (unopened : batches_in cursor.from cursor.at batches ≡ []) where
      at_first : cursor.at ≡ cursor.from
      at_first = is.fresh (omega (arith, is.opened, ap length unopened))

      part_rows : of_number i (rows_ahead table cursor) ≡ with_number i (rows_between (begin_in table cursor i) (end_in table cursor i) (rows_of batch))
      part_rows =
          ap (λ (n : ℕ). of_number i (numbered_rows (numbered_parts n cursor.to batches))) at_first
          ∙ place_number cursor.from cursor.to batches i (begin_in table cursor i) (cursor.to - rows_before batches i) batch found refl refl
          ∙ ap (with_number i) (between_same (begin_in table cursor i) (cursor.to - rows_before batches i) (end_in table cursor i) (rows_of batch)
          (omega (arith, next, length-rows_of batch)))

      pub part_place : (after : Cursor) → Begins (begin_in table cursor i) (end_in table cursor i) after →
          place_of one after ≡ part_of i (after.to - after.at) (place_of table cursor)
      part_place after begins =
          let made : List (ℕ × Row) → List ℕ → List ℕ → RowsAt = λ ahead some opened. record (place_of table cursor) { ahead = ahead; batches = some; opened = opened; unseen = after.to - after.at } in
          let a = begin_in table cursor i in
          let b = end_in table cursor i in
          let rows : rows_ahead one after ≡ map (λ (row : ℕ × Row). (0, row.1)) (of_number i (rows_ahead table cursor)) =
          ap (λ (n : ℕ). numbered_rows (numbered_parts n after.to (batch ∷ []))) begins.at_is
          ∙ ap (λ (n : ℕ). numbered_rows (numbered_parts a n (batch ∷ []))) begins.to_is
          ∙ append-nil (with_number 0 (rows_between a b (rows_of batch)))
          ∙ sym (ap (map (λ (row : ℕ × Row). (0, row.1))) part_rows
          ∙ map-map (λ (row : ℕ × Row). (0, row.1)) (λ (row : Row). (i, row)) (rows_between a b (rows_of batch))) in
          let all : batches_in after.from after.to (batch ∷ []) ≡ 0 ∷ [] =
          ap (λ (n : ℕ). batches_in n after.to (batch ∷ [])) begins.from_is ∙ ap (λ (n : ℕ). batches_in a n (batch ∷ [])) begins.to_is ∙ one_in in
          let none : batches_in after.from after.at (batch ∷ []) ≡ [] =
          none_in after.from after.at (batch ∷ []) (omega (arith, begins.from_is, begins.at_is)) in
          ap (λ (ahead : List (ℕ × Row)). made ahead (batches_in after.from after.to (batch ∷ [])) (batches_in after.from after.at (batch ∷ []))) rows
          ∙ ap (λ (some : List ℕ). made (part_of i 0 (place_of table cursor)).ahead some (batches_in after.from after.at (batch ∷ []))) all
          ∙ ap (λ (opened : List ℕ). made (part_of i 0 (place_of table cursor)).ahead (0 ∷ []) opened) none

-- the rows of a place come batch by batch
pub place_in_order : (table : TableAt) (cursor : Cursor) → IsPlaced table cursor → ComeInOrder (place_of table cursor)
place_in_order table cursor is none =
    let rows = rows_ahead table cursor in
    place_order cursor.at cursor.to table.batches
    ∙ ap (λ (numbers : List ℕ). flat_map (λ number. of_number number rows) numbers) (sym is.each)

-- ---- as the code meets them

module _ (table : TableAt) (cursor : Cursor) (is : IsPlaced table cursor) (i : ℕ) (listed : i < length (batches_in cursor.from cursor.to table.batches)) where
  pub part_there : i < length table.batches
  part_there = omega (arith, listed, ap length is.each, length-range_with_len 0 (length table.batches))

  found_batch : (batch : BatchAt) × (slice_get table.batches i ≡ Some batch)
  found_batch = there_at table.batches i part_there

  module _ (made : TableAt) (made_is : made ≡ record table { batches = option_to_list (slice_get table.batches i) }) (from to : ℕ)
      (from_is : from ≡ begin_in table cursor i) (to_is : to ≡ end_in table cursor i) where
    whole : made ≡ one table cursor is i part_there found_batch.0 found_batch.1
    whole = made_is ∙ ap (λ (found : Option BatchAt). record table { batches = option_to_list found }) found_batch.1

    pub part_ordered : from ≤ to
    part_ordered = omega (arith, from_is, to_is, some_in table cursor is i part_there found_batch.0 found_batch.1)

    pub part_within : to ≤ length (table_of made).rows
    part_within = subst (λ (t : TableAt). to ≤ length (table_of t).rows) (sym whole)
        (omega (arith, to_is, end_few table cursor is i part_there found_batch.0 found_batch.1))

    pub part_first : BeginsInFirst from made.batches
    part_first = subst (λ (t : TableAt). BeginsInFirst from t.batches) (sym whole)
        (subst (λ (n : ℕ). BeginsInFirst n (found_batch.0 ∷ [])) (sym from_is) (begin_first table cursor is i part_there found_batch.0 found_batch.1))

    pub part_each : batches_in from to made.batches ≡ range_with_len 0 (length made.batches)
    part_each = subst (λ (t : TableAt). batches_in from to t.batches ≡ range_with_len 0 (length t.batches)) (sym whole)
        (ap (λ (n : ℕ). batches_in n to (found_batch.0 ∷ [])) from_is ∙ ap (λ (n : ℕ). batches_in (begin_in table cursor i) n (found_batch.0 ∷ [])) to_is
        ∙ one_in table cursor is i part_there found_batch.0 found_batch.1)

    pub part_made : batches_in cursor.from cursor.at table.batches ≡ [] → (after : Cursor) → Begins from to after → place_of made after ≡ part_of i (after.to - after.at) (place_of table cursor)
    part_made unopened after begins =
        let start = subst (λ (n : ℕ). Begins (begin_in table cursor i) n after) to_is (subst (λ (n : ℕ). Begins n to after) from_is begins) in
        ap (λ (t : TableAt). place_of t after) whole
        ∙ part_place table cursor is i part_there found_batch.0 found_batch.1 unopened after start
