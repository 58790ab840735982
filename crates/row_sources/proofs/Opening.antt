-- Which batches a range of rows touches, as it grows row by row.
use Rattle.std.proofs.Common.{◌≡◌, ◌≤◌, ◌<◌, ℕ, zero, suc, ◌+◌, ◌-◌, Bool, true, false, List, [], ◌∷◌, ◌++◌, length, take, drop, max, min, nat_lt, Option, Some, None, refl, sym, ap, ◌∙◌, ◌⊎◌, inl, inr, arith, length-append}
use Rattle.std.specs.Io.{StartsWith}
use Rattle.std.specs.List.{filter, flat_map, last_or, range_with_len}
use Rattle.std.proofs.lemmas.Bool.{both_ways, cases_Bool, cases_eq, cases_lt, lt-ltb, le-ltb, ltb-true, ltb-false}
use Rattle.std.proofs.lemmas.List.{take-append-drop, take-take, take_all}
use Rattle.arrays.specs.Batch.{BatchAt, rows_of}
use Rattle.table_versions.specs.Standing.{rows_before}
use Rattle.table_versions.proofs.Rowing.{rows-append}
use Rattle.batch_skipping.specs.OpenedBatches.{has_row_in, batches_in}

-- ---- the numbers of a range that pass a test

filter_same : (f g : ℕ → Bool) (first n : ℕ) → ((k : ℕ) → first ≤ k → k < first + n → f k ≡ g k) →
    filter f (range_with_len first n) ≡ filter g (range_with_len first n)
filter_same f g first zero same = refl
filter_same f g first (suc n) same =
    let here : f first ≡ g first = same first (omega arith) (omega arith) in
    rw (here, filter_same f g (first + 1) n (λ k low high. same k (omega (arith, low)) (omega (arith, high)))) refl

filter_none : (f : ℕ → Bool) (first n : ℕ) → ((k : ℕ) → first ≤ k → k < first + n → f k ≡ false) →
    filter f (range_with_len first n) ≡ []
filter_none f first zero none = refl
filter_none f first (suc n) none =
    let here : f first ≡ false = none first (omega arith) (omega arith) in
    rw (here, filter_none f (first + 1) n (λ k low high. none k (omega (arith, low)) (omega (arith, high)))) refl

-- one number more, after all others that pass
filter_more : (f g : ℕ → Bool) (first n i : ℕ) → first ≤ i → i < first + n → ((k : ℕ) → k < i → f k ≡ g k) →
    f i ≡ false → g i ≡ true →
    ((k : ℕ) → i < k → k < first + n → f k ≡ false) → ((k : ℕ) → i < k → k < first + n → g k ≡ false) →
    filter g (range_with_len first n) ≡ filter f (range_with_len first n) ++ i ∷ []
filter_more f g first zero i low high same before now none later = absurd (omega (arith, low, high))
filter_more f g first (suc n) i low high same before now none later =
    by (λ up. filter_more f g (first + 1) n i up (omega (arith, high)) same before now
    (λ k above within. none k above (omega (arith, within))) (λ k above within. later k above (omega (arith, within))))
    (cases_eq first i)
  where
    by : (first + 1 ≤ i → filter g (range_with_len (first + 1) n) ≡ filter f (range_with_len (first + 1) n) ++ i ∷ []) →
        (first ≡ i) ⊎ (first ≡ i → ⊥) →
        filter g (range_with_len first (suc n)) ≡ filter f (range_with_len first (suc n)) ++ i ∷ []
    by rest (inl e) =
        let off : f first ≡ false = ap f e ∙ before in
        let on : g first ≡ true = ap g e ∙ now in
        let empty = filter_none f (first + 1) n
        (λ k above within. none k (omega (arith, above, e)) (omega (arith, within))) in
        let empty' = filter_none g (first + 1) n
        (λ k above within. later k (omega (arith, above, e)) (omega (arith, within))) in
        rw (off, on, empty, empty') (ap (λ number. number ∷ []) e)
    by rest (inr other) =
        let here : f first ≡ g first = same first (omega (arith, low, other)) in
        let later_rest = rest (omega (arith, low, other)) in
        elim (cases_Bool (g first)) [
          | inl on ↦ rw (here, on, later_rest) refl
          | inr off ↦ rw (here, off, later_rest) refl
        ]

-- numbers that pass up to some number, and those that pass
filter_front : (f g : ℕ → Bool) (first n : ℕ) → ((k : ℕ) → f k ≡ true → g k ≡ true) →
    ((j k : ℕ) → j < k → g j ≡ true → f j ≡ false → f k ≡ false) →
    StartsWith (filter g (range_with_len first n)) (filter f (range_with_len first n))
filter_front f g first zero wider front = refl
filter_front f g first (suc n) wider front =
    by (filter_front f g (first + 1) n wider front) (cases_Bool (g first)) (cases_Bool (f first))
  where
    by : StartsWith (filter g (range_with_len (first + 1) n)) (filter f (range_with_len (first + 1) n)) →
        (g first ≡ true) ⊎ (g first ≡ false) → (f first ≡ true) ⊎ (f first ≡ false) →
        StartsWith (filter g (range_with_len first (suc n))) (filter f (range_with_len first (suc n)))
    by rest (inl on) (inl here) = rw (on, here) (ap (λ more. first ∷ more) rest)
    by rest (inl on) (inr off) =
        let none = filter_none f (first + 1) n (λ k above within. front first k (omega (arith, above)) on off) in
        rw (on, off, none) refl
    by rest (inr out) (inl here) = absurd (both_ways (g first) out (wider first here))
    by rest (inr out) (inr off) = rw (out, off) rest

-- ---- rows before a batch

-- no fewer before a later batch
pub grows : (batches : List BatchAt) (i j : ℕ) → i ≤ j → rows_before batches i ≤ rows_before batches j
grows batches i j h =
    let whole = ap (λ (some : List BatchAt). length (flat_map rows_of some)) (sym (take-append-drop i (take j batches)))
    ∙ rows-append (take i (take j batches)) (drop i (take j batches)) in
    let front = ap (λ (some : List BatchAt). length (flat_map rows_of some)) (take-take i j batches h) in
    omega (arith, whole, front)

-- and all rows after the last one
pub in_all : (batches : List BatchAt) (i : ℕ) → i ≤ length batches →
    rows_before batches i ≤ length (flat_map rows_of batches)
in_all batches i h =
    let all = ap (λ (some : List BatchAt). length (flat_map rows_of some))
    (take_all (length batches) batches (omega arith)) in
    omega (arith, grows batches i (length batches) h, all)

-- two tests of order that are true together
same_test : (a b c d : ℕ) → (a < b → c < d) → (c < d → a < b) → nat_lt a b ≡ nat_lt c d
same_test a b c d f g = by (cases_lt a b) (cases_lt c d)
  where
    by : (a < b) ⊎ (b ≤ a) → (c < d) ⊎ (d ≤ c) → nat_lt a b ≡ nat_lt c d
    by (inl h) (inl k) = lt-ltb a b h ∙ sym (lt-ltb c d k)
    by (inr h) (inr k) = le-ltb a b h ∙ sym (le-ltb c d k)
    by (inl h) (inr k) = let no = f h in absurd (omega (arith, no, k))
    by (inr h) (inl k) = let no = g k in absurd (omega (arith, no, h))

-- ---- the batches of a range

-- none in an empty range
pub none_in : (from to : ℕ) (batches : List BatchAt) → to ≤ from → batches_in from to batches ≡ []
none_in from to batches h =
    filter_none (has_row_in from to batches) 0 (length batches)
    (λ k low high. le-ltb (max (rows_before batches k) from) (min (rows_before batches (k + 1)) to) (omega (arith, h)))

-- no more than there are rows in the range
few_from : (from to : ℕ) (batches : List BatchAt) (first n : ℕ) →
    length (filter (has_row_in from to batches) (range_with_len first n)) ≤ to - max (rows_before batches first) from
few_from from to batches first zero = omega arith
few_from from to batches first (suc n) =
    by (few_from from to batches (first + 1) n)
    (cases_lt (max (rows_before batches first) from) (min (rows_before batches (first + 1)) to))
  where
    by : length (filter (has_row_in from to batches) (range_with_len (first + 1) n))
        ≤ to - max (rows_before batches (first + 1)) from →
        (max (rows_before batches first) from < min (rows_before batches (first + 1)) to)
        ⊎ (min (rows_before batches (first + 1)) to ≤ max (rows_before batches first) from) →
        length (filter (has_row_in from to batches) (range_with_len first (suc n)))
        ≤ to - max (rows_before batches first) from
    by rest (inl h) = rw (lt-ltb (max (rows_before batches first) from) (min (rows_before batches (first + 1)) to) h)
        (omega (arith, h, rest))
    by rest (inr h) =
        rw (le-ltb (max (rows_before batches first) from) (min (rows_before batches (first + 1)) to) h)
        (omega (arith, rest, grows batches first (first + 1) (omega arith)))

pub in_few : (from to : ℕ) (batches : List BatchAt) → length (batches_in from to batches) ≤ to - from
in_few from to batches = omega (arith, few_from from to batches 0 (length batches))

-- a longer range touches these batches and then further ones
pub in_longer : (from a b : ℕ) (batches : List BatchAt) → a ≤ b →
    StartsWith (batches_in from b batches) (batches_in from a batches)
in_longer from a b batches h = filter_front (has_row_in from a batches) (has_row_in from b batches) 0
    (length batches) wider front
  where
    wider : (k : ℕ) → has_row_in from a batches k ≡ true → has_row_in from b batches k ≡ true
    wider k on =
        let less = ltb-true (max (rows_before batches k) from) (min (rows_before batches (k + 1)) a) on in
        lt-ltb (max (rows_before batches k) from) (min (rows_before batches (k + 1)) b) (omega (arith, less, h))

    front : (j k : ℕ) → j < k → has_row_in from b batches j ≡ true → has_row_in from a batches j ≡ false →
        has_row_in from a batches k ≡ false
    front j k before on off =
        let less = ltb-true (max (rows_before batches j) from) (min (rows_before batches (j + 1)) b) on in
        let more = ltb-false (max (rows_before batches j) from) (min (rows_before batches (j + 1)) a) off in
        le-ltb (max (rows_before batches k) from) (min (rows_before batches (k + 1)) a)
        (omega (arith, less, more, grows batches j k (omega (arith, before))))

-- a range may end with the rows, and not before it begins
pub in_clamped : (from to n : ℕ) (batches : List BatchAt) → length (flat_map rows_of batches) ≤ n →
    batches_in from (max (min to n) from) batches ≡ batches_in from to batches
in_clamped from to n batches h =
    filter_same (has_row_in from (max (min to n) from) batches) (has_row_in from to batches) 0 (length batches)
    (λ k low high. same k (omega (arith, high)))
  where
    same : (k : ℕ) → k < length batches → has_row_in from (max (min to n) from) batches k ≡ has_row_in from to batches k
    same k high =
        let all = in_all batches (k + 1) (omega (arith, high)) in
        same_test (max (rows_before batches k) from) (min (rows_before batches (k + 1)) (max (min to n) from))
        (max (rows_before batches k) from) (min (rows_before batches (k + 1)) to)
        (λ g. omega (arith, g, h, all)) (λ g. omega (arith, g, h, all))

last_is : (before : Option ℕ) (numbers : List ℕ) (i : ℕ) → last_or before (numbers ++ i ∷ []) ≡ Some i
last_is before [] i = refl
last_is before (number ∷ numbers) i = last_is (Some number) numbers i

module _ (from a b : ℕ) (batches : List BatchAt) (i : ℕ) (there : i < length batches)
    (begun : from ≤ a) (behind : rows_before batches i ≤ a) (more : a < b)
    (high : b ≤ rows_before batches (i + 1)) where
  -- the batches before this one
  earlier : (k : ℕ) → k < i → has_row_in from a batches k ≡ has_row_in from b batches k
  earlier k before =
      let ends = grows batches (k + 1) i (omega (arith, before)) in
      same_test (max (rows_before batches k) from) (min (rows_before batches (k + 1)) a)
      (max (rows_before batches k) from) (min (rows_before batches (k + 1)) b)
      (λ g. omega (arith, g, more)) (λ g. omega (arith, g, ends, behind))

  now_there : has_row_in from b batches i ≡ true
  now_there = lt-ltb (max (rows_before batches i) from) (min (rows_before batches (i + 1)) b)
      (omega (arith, begun, behind, more, high))

  -- the batches after it
  none_yet : (to : ℕ) → to ≤ b → (k : ℕ) → i < k → has_row_in from to batches k ≡ false
  none_yet to h k above =
      let begins = grows batches (i + 1) k (omega (arith, above)) in
      le-ltb (max (rows_before batches k) from) (min (rows_before batches (k + 1)) to) (omega (arith, begins, high, h))

  -- the first row of it that is in the range opens it
  pub opens : a ≡ max (rows_before batches i) from → batches_in from b batches ≡ batches_in from a batches ++ i ∷ []
  opens e =
      let before = le-ltb (max (rows_before batches i) from) (min (rows_before batches (i + 1)) a) (omega (arith, e)) in
      filter_more (has_row_in from a batches) (has_row_in from b batches) 0 (length batches) i (omega arith)
      (omega (arith, there)) earlier before now_there
      (λ k above within. none_yet a (omega (arith, more)) k above) (λ k above within. none_yet b (omega arith) k above)

  pub opens_one : a ≡ max (rows_before batches i) from →
      length (batches_in from b batches) ≡ length (batches_in from a batches) + 1
  opens_one e = ap length (opens e) ∙ length-append (batches_in from a batches) (i ∷ [])

  pub opens_last : a ≡ max (rows_before batches i) from → last_or None (batches_in from b batches) ≡ Some i
  opens_last e = ap (last_or None) (opens e) ∙ last_is None (batches_in from a batches) i
