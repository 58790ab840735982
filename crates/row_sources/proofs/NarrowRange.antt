-- A range of rows among some of its batches alone.
use Rattle.std.proofs.Common.{◌≡◌, ◌≤◌, ◌<◌, ◌⊎◌, inl, inr, ℕ, zero, suc, ◌+◌, ◌-◌, Bool, true, false, List, [], ◌∷◌, ◌++◌, length, take, drop, max, min, nat_lt, get_or, slice_get, Option, Some, refl, sym, ap, ◌∙◌, subst, arith, append-nil, cond, length-drop}
use Rattle.std.specs.List.{filter, flat_map, range_with_len, zip}
use Rattle.std.specs.Option.{option_to_list}
use Rattle.std.proofs.lemmas.Bool.{and_from, cases_Bool, lt-ltb, ltb-true}
use Rattle.arrays.specs.Batch.{BatchAt, rows_of}
use Rattle.table_versions.specs.KeptTables.{IsKept}
use Rattle.table_versions.specs.Standing.{rows_before}
use Rattle.table_versions.specs.StoredTables.{TableAt, has_rows}
use Rattle.table_versions.specs.Table.{Row}
use Rattle.table_versions.proofs.Places.{split_at}
use Rattle.table_versions.proofs.Rowing.{length-rows_of, rows-append, rows-cons}
use Rattle.typed_plan.specs.JoinedRows.{rows_between}
use Rattle.batch_skipping.specs.ChosenColumns.{are_within}
use Rattle.row_sources.specs.Parts.{numbered_parts, parts}
use Rattle.batch_skipping.specs.Narrow.{BeginsInFirst, batches_at, narrowed_from, narrowed_to}
use Rattle.batch_skipping.specs.OpenedBatches.{has_row_in, batches_in}
use Rattle.row_sources.proofs.Narrowing.{at_many, filled_each, one_of, there_at}
use Rattle.row_sources.proofs.Opening.{grows, in_all}

-- ---- batches of a range, in order

-- these batches, from this number on and in order, have a row in the range
abbrev pub AreListed : ℕ → ℕ → List BatchAt → ℕ → List ℕ → Type 0
AreListed from to batches low [] = Unit {0}
AreListed from to batches low (number ∷ numbers) =
    (low ≤ number) × (number < length batches) × (has_row_in from to batches number ≡ true) × AreListed from to batches (number + 1) numbers

listed_lower : (from to : ℕ) (batches : List BatchAt) (low lower : ℕ) (numbers : List ℕ) → lower ≤ low →
    AreListed from to batches low numbers → AreListed from to batches lower numbers
listed_lower from to batches low lower [] h listed = tt
listed_lower from to batches low lower (number ∷ numbers) h listed = (omega (arith, h, listed.0), listed.1, listed.2, listed.3)

-- the batches that pass a test, of those that have one
pub listed_of : (from to : ℕ) (batches : List BatchAt) (test : ℕ → Bool) → ((i : ℕ) → test i ≡ true → has_row_in from to batches i ≡ true) →
    (first n : ℕ) → first + n ≤ length batches → AreListed from to batches first (filter test (range_with_len first n))
listed_of from to batches test in_range first zero h = tt
listed_of from to batches test in_range first (suc n) h =
    let rest = listed_of from to batches test in_range (first + 1) n (omega (arith, h)) in
    by (cases_Bool (test first)) rest
  where
    by : (test first ≡ true) ⊎ (test first ≡ false) → AreListed from to batches (first + 1) (filter test (range_with_len (first + 1) n)) →
        AreListed from to batches first (filter test (range_with_len first (suc n)))
    by (inl on) rest = rw on (omega arith, omega (arith, h), in_range first on, rest)
    by (inr off) rest = rw off (listed_lower from to batches (first + 1) first (filter test (range_with_len (first + 1) n)) (omega arith) rest)

-- they are there
pub listed_within : (from to : ℕ) (batches : List BatchAt) (low : ℕ) (numbers : List ℕ) → AreListed from to batches low numbers →
    are_within (length batches) numbers ≡ true
listed_within from to batches low [] listed = refl
listed_within from to batches low (number ∷ numbers) listed =
    and_from (nat_lt number (length batches)) (are_within (length batches) numbers) (lt-ltb number (length batches) listed.1)
    (listed_within from to batches (number + 1) numbers listed.3)

-- ---- where a batch stands

module _ (from to : ℕ) (batches : List BatchAt) where
  -- its rows stand after those before it
  pub before_next : (i : ℕ) (batch : BatchAt) → slice_get batches i ≡ Some batch → rows_before batches (i + 1) ≡ rows_before batches i + batch.rows
  before_next i batch there =
      ap (λ (some : List BatchAt). length (flat_map rows_of some)) (split_at batches i batch there).1
      ∙ rows-append (take i batches) (batch ∷ []) ∙ ap (λ (n : ℕ). rows_before batches i + n) (rows-cons batch [])
      ∙ omega arith

  -- a batch with a row in the range
  pub in_range : (i : ℕ) → has_row_in from to batches i ≡ true →
      (from < rows_before batches (i + 1)) × (rows_before batches i < to) × (rows_before batches i < rows_before batches (i + 1)) × (from < to)
  in_range i h =
      let less = ltb-true (max (rows_before batches i) from) (min (rows_before batches (i + 1)) to) h in
      (omega (arith, less), omega (arith, less), omega (arith, less), omega (arith, less))

  -- the part of a batch
  abbrev pub part_at : ℕ → BatchAt → List Row
  part_at i batch = rows_between (from - rows_before batches i) (to - rows_before batches i) (rows_of batch)

-- a range may end with the rows
take_more : {X : Type 0} (n m : ℕ) (xs : List X) → min n (length xs) ≡ min m (length xs) → take n xs ≡ take m xs
take_more n m [] h = by n m
  where
    by : {X : Type 0} (n m : ℕ) → take {A = X} n [] ≡ take m []
    by zero zero = refl
    by zero (suc m) = refl
    by (suc n) zero = refl
    by (suc n) (suc m) = refl
take_more zero zero (x ∷ xs) h = refl
take_more zero (suc m) (x ∷ xs) h = absurd (omega (arith, h))
take_more (suc n) zero (x ∷ xs) h = absurd (omega (arith, h))
take_more (suc n) (suc m) (x ∷ xs) h = ap (λ rest. x ∷ rest) (take_more n m xs (omega (arith, h)))

pub between_same : (from a b : ℕ) (rows : List Row) → min a (length rows) ≡ min b (length rows) → rows_between from a rows ≡ rows_between from b rows
between_same from a b rows h = take_more (a - from) (b - from) (drop from rows) (omega (arith, h, length-drop from rows))

-- what stands at a place, and what stands after it
at_drop : {X : Type 0} (xs : List X) (i : ℕ) (x : X) (rest : List X) → drop i xs ≡ x ∷ rest → (slice_get xs i ≡ Some x) × (drop (i + 1) xs ≡ rest)
at_drop [] zero x rest e = cc
at_drop [] (suc i) x rest e = cc
at_drop (y ∷ ys) zero x rest e = let same : y ≡ x = cc in let others : ys ≡ rest = cc in (ap Some same, others)
at_drop (y ∷ ys) (suc i) x rest e =
    let more : suc i + 1 ≡ suc (i + 1) = omega arith in
    let behind = at_drop ys i x rest e in
    (behind.0, ap (λ (n : ℕ). drop n (y ∷ ys)) more ∙ behind.1)

-- ---- what is made of the parts of batches

module _ {Y : Type 0} (from to : ℕ) (batches : List BatchAt) (make : ℕ → List Row → List Y) where
  -- what is made of the part of one
  abbrev made_at : ℕ → Option BatchAt → List Y
  made_at i found = flat_map (λ (batch : BatchAt). make i (part_at from to batches i batch)) (option_to_list found)

  -- and of the parts of these
  abbrev pub made_of : List ℕ → List Y
  made_of numbers = flat_map (λ (i : ℕ). made_at i (slice_get batches i)) numbers

  -- what is made of one that is there
  one_made : (i : ℕ) (batch : BatchAt) (numbers : List ℕ) → slice_get batches i ≡ Some batch →
      made_of (i ∷ numbers) ≡ make i (part_at from to batches i batch) ++ made_of numbers
  one_made i batch numbers there =
      ap (λ (found : Option BatchAt). made_at i found ++ made_of numbers) there
      ∙ ap (λ (some : List Y). some ++ made_of numbers) (append-nil (make i (part_at from to batches i batch)))

  module _ (test : ℕ → Bool) (none : (i : ℕ) (batch : BatchAt) → slice_get batches i ≡ Some batch → test i ≡ false → make i (part_at from to batches i batch) ≡ []) where
    whole_from : (i : ℕ) (rest : List BatchAt) → drop i batches ≡ rest → (a b : ℕ) → a ≡ from - rows_before batches i → b ≡ to - rows_before batches i →
        flat_map (λ (part : ℕ × List Row). make part.0 part.1) (zip (range_with_len i (length rest)) (parts a b rest))
        ≡ made_of (filter test (range_with_len i (length rest)))
    whole_from i [] is a b f t = refl
    whole_from i (batch ∷ rest) is a b f t =
        let at = at_drop batches i batch rest is in
        let next = before_next from to batches i batch at.0 in
        let behind = whole_from (i + 1) rest at.1 (a - batch.rows) (b - batch.rows) (omega (arith, f, next)) (omega (arith, t, next)) in
        let here : make i (rows_between a b (rows_of batch)) ≡ make i (part_at from to batches i batch) =
        ap (λ (n : ℕ). make i (rows_between n b (rows_of batch))) f ∙ ap (λ (n : ℕ). make i (rows_between (from - rows_before batches i) n (rows_of batch))) t in
        let numbers = filter test (range_with_len (i + 1) (length rest)) in
        ap (λ (some : List Y). make i (rows_between a b (rows_of batch)) ++ some) behind
        ∙ ap (λ (some : List Y). some ++ made_of numbers) here
        ∙ by numbers at.0 (cases_Bool (test i))
      where
        by : (numbers : List ℕ) → slice_get batches i ≡ Some batch → (test i ≡ true) ⊎ (test i ≡ false) →
            make i (part_at from to batches i batch) ++ made_of numbers ≡ made_of (cond (test i) (i ∷ numbers) numbers)
        by numbers there (inl on) = sym (one_made i batch numbers there) ∙ sym (ap (λ (b : Bool). made_of (cond b (i ∷ numbers) numbers)) on)
        by numbers there (inr off) =
            ap (λ (some : List Y). some ++ made_of numbers) (none i batch there off) ∙ sym (ap (λ (b : Bool). made_of (cond b (i ∷ numbers) numbers)) off)

    -- the others make nothing
    pub whole_made : flat_map (λ (part : ℕ × List Row). make part.0 part.1) (numbered_parts from to batches) ≡ made_of (filter test (range_with_len 0 (length batches)))
    whole_made = whole_from 0 batches refl from to (omega arith) (omega arith)

  -- the parts of these batches alone
  pub narrow_from : (low k a b : ℕ) (number_of : ℕ → ℕ) (numbers : List ℕ) → ((j : ℕ) → j < length numbers → number_of (k + j) ≡ get_or numbers j 0) →
      AreListed from to batches low numbers → a ≡ narrowed_from from batches numbers → b ≡ narrowed_to to batches numbers →
      flat_map (λ (part : ℕ × List Row). make (number_of part.0) part.1)
      (zip (range_with_len k (length (batches_at numbers batches))) (parts a b (batches_at numbers batches)))
      ≡ made_of numbers
  narrow_from low k a b number_of [] named listed f t = refl
  narrow_from low k a b number_of (number ∷ numbers) named listed f t =
      let one = there_at batches number listed.1 in
      let batch = one.0 in
      let range = in_range from to batches number listed.2 in
      let next = before_next from to batches number batch one.1 in
      let more = behind_first number batch numbers one.1 listed in
      let here : rows_between a b (rows_of batch) ≡ part_at from to batches number batch =
      ap (λ (n : ℕ). rows_between n b (rows_of batch)) f
      ∙ between_same (from - rows_before batches number) b (to - rows_before batches number) (rows_of batch) (omega (arith, t, next, more.1, length-rows_of batch)) in
      let name : number_of k ≡ number = ap number_of (add_none k) ∙ named 0 (omega arith) in
      let rest = narrow_from (number + 1) (k + 1) (a - batch.rows) (b - batch.rows) number_of numbers (later numbers named) listed.3
      (omega (arith, f, next, range.0, more.0)) (omega (arith, t, next, more.1)) in
      ap (λ (found : Option BatchAt). flat_map (λ (part : ℕ × List Row). make (number_of part.0) part.1)
      (zip (range_with_len k (length (option_to_list found ++ batches_at numbers batches))) (parts a b (option_to_list found ++ batches_at numbers batches)))) one.1
      ∙ ap (λ (some : List Y). make (number_of k) (rows_between a b (rows_of batch)) ++ some) rest
      ∙ ap (λ (rows : List Row). make (number_of k) rows ++ made_of numbers) here
      ∙ ap (λ (n : ℕ). make n (part_at from to batches number batch) ++ made_of numbers) name
      ∙ sym (one_made number batch numbers one.1)
    where
      add_none : (n : ℕ) → n ≡ n + 0
      add_none n = omega arith

      later : (numbers : List ℕ) → ((j : ℕ) → j < length (number ∷ numbers) → number_of (k + j) ≡ get_or (number ∷ numbers) j 0) →
          (j : ℕ) → j < length numbers → number_of (k + 1 + j) ≡ get_or numbers j 0
      later numbers named j h =
          let e : k + 1 + j ≡ k + suc j = omega arith in
          ap number_of e ∙ named (suc j) (omega (arith, h))

      -- where the next one begins after this one, the range goes on after it too
      behind_first : (number : ℕ) (batch : BatchAt) (numbers : List ℕ) → slice_get batches number ≡ Some batch → AreListed from to batches low (number ∷ numbers) →
          (narrowed_from from batches numbers ≡ 0) × ((narrowed_to to batches numbers ≡ 0) ⊎ (rows_before batches (number + 1) ≤ to))
      behind_first number batch [] there listed = (refl, inl refl)
      behind_first number batch (second ∷ numbers) there listed =
          let this = in_range from to batches number listed.2 in
          let that = in_range from to batches second listed.3.2 in
          let order = grows batches (number + 1) second listed.3.0 in
          (omega (arith, this.0, order), inr (omega (arith, that.1, order)))

-- ---- the range among the batches

-- numbers that all pass a test
filter_all : (test : ℕ → Bool) (first n : ℕ) → ((i : ℕ) → first ≤ i → i < first + n → test i ≡ true) → filter test (range_with_len first n) ≡ range_with_len first n
filter_all test first zero all = refl
filter_all test first (suc n) all =
    rw (all first (omega arith) (omega arith))
    (ap (λ rest. first ∷ rest) (filter_all test (first + 1) n (λ i low high. all i (omega (arith, low)) (omega (arith, high)))))

-- all rows are in each batch
pub whole_in : (rows : ℕ) (batches : List BatchAt) → rows ≡ length (flat_map rows_of batches) →
    ((i : ℕ) → i < length batches → rows_before batches i < rows_before batches (i + 1)) → batches_in 0 rows batches ≡ range_with_len 0 (length batches)
whole_in rows batches size filled =
    filter_all (has_row_in 0 rows batches) 0 (length batches) (λ i low high. each i (omega (arith, high)))
  where
    each : (i : ℕ) → i < length batches → has_row_in 0 rows batches i ≡ true
    each i h =
        let all = in_all batches (i + 1) (omega (arith, h)) in
        let more = filled i h in
        lt-ltb (max (rows_before batches i) 0) (min (rows_before batches (i + 1)) rows) (omega (arith, all, more, size))

module _ (from to : ℕ) (batches : List BatchAt) where
  -- the range begins in the first of them
  pub begins_in_first : (low : ℕ) (numbers : List ℕ) → AreListed from to batches low numbers → BeginsInFirst (narrowed_from from batches numbers) (batches_at numbers batches)
  begins_in_first low [] listed = inl refl
  begins_in_first low (number ∷ numbers) listed =
      let one = there_at batches number listed.1 in
      let batch = one.0 in
      let range = in_range from to batches number listed.2 in
      let next = before_next from to batches number batch one.1 in
      let first : rows_before (batch ∷ batches_at numbers batches) 1 ≡ batch.rows = rows-cons batch [] ∙ omega arith in
      inr (subst (λ (found : Option BatchAt). from - rows_before batches number < rows_before (option_to_list found ++ batches_at numbers batches) 1) (sym one.1)
      (omega (arith, first, range.0, next)))

  -- each of them begins before the range ends
  begins_before : (low : ℕ) (numbers : List ℕ) (i : ℕ) → AreListed from to batches low numbers → i < length numbers →
      rows_before (batches_at numbers batches) i < narrowed_to to batches numbers
  begins_before low [] i listed h = absurd (omega (arith, h))
  begins_before low (number ∷ numbers) i listed h =
      let one = there_at batches number listed.1 in
      subst (λ (found : Option BatchAt). rows_before (option_to_list found ++ batches_at numbers batches) i < narrowed_to to batches (number ∷ numbers)) (sym one.1)
      (by i numbers h one.0 one.1 listed (λ j here. begins_before (number + 1) numbers j listed.3 here))
    where
      by : (i : ℕ) (numbers : List ℕ) → i < length (number ∷ numbers) → (batch : BatchAt) → slice_get batches number ≡ Some batch →
          AreListed from to batches low (number ∷ numbers) → ((j : ℕ) → j < length numbers → rows_before (batches_at numbers batches) j < narrowed_to to batches numbers) →
          rows_before (batch ∷ batches_at numbers batches) i < narrowed_to to batches (number ∷ numbers)
      by zero numbers h batch there listed later =
          let range = in_range from to batches number listed.2 in
          omega (arith, range.1, range.2)
      by (suc i) [] h batch there listed later = absurd (omega (arith, h))
      by (suc i) (second ∷ numbers) h batch there listed later =
          let next = before_next from to batches number batch there in
          let that = in_range from to batches second listed.3.2 in
          let order = grows batches (number + 1) second listed.3.0 in
          let rest = later i (omega (arith, h)) in
          let some = rows-cons batch (take i (batches_at (second ∷ numbers) batches)) in
          omega (arith, next, that.1, order, rest, some)

  -- the range is not empty
  begins_low : (low : ℕ) (numbers : List ℕ) → AreListed from to batches low numbers → 0 < length numbers →
      narrowed_from from batches numbers < narrowed_to to batches numbers
  begins_low low [] listed h = absurd (omega (arith, h))
  begins_low low (number ∷ numbers) listed h =
      let range = in_range from to batches number listed.2 in
      omega (arith, range.0, range.1, range.2, range.3)

  -- so each has a row in it
  pub all_in : (numbers : List ℕ) → AreListed from to batches 0 numbers → ((i : ℕ) → i < length numbers → rows_before (batches_at numbers batches) i < rows_before (batches_at numbers batches) (i + 1)) →
      batches_in (narrowed_from from batches numbers) (narrowed_to to batches numbers) (batches_at numbers batches) ≡ range_with_len 0 (length numbers)
  all_in numbers listed filled =
      let many = at_many batches numbers (listed_within from to batches 0 numbers listed) in
      ap (λ (n : ℕ). filter (has_row_in (narrowed_from from batches numbers) (narrowed_to to batches numbers) (batches_at numbers batches)) (range_with_len 0 n)) many
      ∙ filter_all (has_row_in (narrowed_from from batches numbers) (narrowed_to to batches numbers) (batches_at numbers batches)) 0 (length numbers)
      (λ i low high. each i (omega (arith, high)))
    where
      each : (i : ℕ) → i < length numbers → has_row_in (narrowed_from from batches numbers) (narrowed_to to batches numbers) (batches_at numbers batches) i ≡ true
      each i h =
          let some = batches_at numbers batches in
          let a = narrowed_from from batches numbers in
          let b = narrowed_to to batches numbers in
          let first = begins_in_first 0 numbers listed in
          let low = begins_before 0 numbers i listed h in
          let range = begins_low 0 numbers listed (omega (arith, h)) in
          lt-ltb (max (rows_before some i) a) (min (rows_before some (i + 1)) b) (by first (omega (arith, low, range)) (filled i h))
        where
          by : BeginsInFirst (narrowed_from from batches numbers) (batches_at numbers batches) →
              max (rows_before (batches_at numbers batches) i) (narrowed_from from batches numbers) < narrowed_to to batches numbers →
              rows_before (batches_at numbers batches) i < rows_before (batches_at numbers batches) (i + 1) →
              max (rows_before (batches_at numbers batches) i) (narrowed_from from batches numbers)
              < min (rows_before (batches_at numbers batches) (i + 1)) (narrowed_to to batches numbers)
          by (inl none) below more = omega (arith, none, below, more)
          by (inr first) below more =
              let order = grows (batches_at numbers batches) 1 (i + 1) (omega arith) in
              omega (arith, first, order, below, more)

-- each batch of a table has one of all rows
pub all_whole : (table : TableAt) (rows : ℕ) → IsKept table rows → batches_in 0 rows table.batches ≡ range_with_len 0 (length table.batches)
all_whole table rows kept = whole_in rows table.batches kept.counted filled
  where
    filled : (i : ℕ) → i < length table.batches → rows_before table.batches i < rows_before table.batches (i + 1)
    filled i h =
        let one = there_at table.batches i h in
        let next = before_next 0 rows table.batches i one.0 one.1 in
        let some = ltb-true 0 (one.0).rows (one_of (λ (batch : BatchAt). has_rows batch ≡ true) table.batches (filled_each table.batches kept.filled) i one.0 one.1) in
        omega (arith, next, some)
