-- Rows with numbers that rise, and rows under other numbers.
use Rattle.std.proofs.Common.{◌≡◌, ◌≤◌, ◌<◌, ◌⊎◌, inl, inr, ℕ, zero, suc, ◌+◌, ◌==◌, Bool, true, false, List, [], ◌∷◌, ◌++◌, length, map, Option, Some, refl, sym, ap, ◌∙◌, subst, arith}
use Rattle.std.specs.List.{filter, flat_map, range_with_len}
use Rattle.std.proofs.lemmas.Bool.{cases_Bool, cases_lt, eq-eqb, eqb-true, eqb-false}
use Rattle.table_versions.specs.Table.{Row}
use Rattle.scan_exec.specs.Answering.{Rise, table_number}
use Rattle.scan_exec.specs.Morsels.{comes_of}
use Rattle.row_sources.specs.Parting.{of_number}
use Rattle.row_sources.proofs.ByNumber.{ne-eqb}

-- rows of these numbers
abbrev Below : ℕ → List (ℕ × Row) → Type 0
Below count [] = Unit {0}
Below count (row ∷ rows) = (row.0 < count) × Below count rows

below_append : (count : ℕ) (xs ys : List (ℕ × Row)) → Below count xs → Below count ys → Below count (xs ++ ys)
below_append count [] ys a b = b
below_append count (x ∷ xs) ys a b = (a.0, below_append count xs ys a.1 b)

below_one : (count number : ℕ) (rows : List (ℕ × Row)) → number < count → Below count (of_number number rows)
below_one count number [] h = tt
below_one count number (row ∷ rows) h = by (cases_Bool (row.0 == number)) (below_one count number rows h)
  where
    by : ((row.0 == number) ≡ true) ⊎ ((row.0 == number) ≡ false) → Below count (of_number number rows) → Below count (of_number number (row ∷ rows))
    by (inl on) rest = rw on (omega (arith, eqb-true row.0 number on, h), rest)
    by (inr off) rest = rw off rest

below_range : (count first n : ℕ) (rows : List (ℕ × Row)) → first + n ≤ count → Below count (flat_map (λ number. of_number number rows) (range_with_len first n))
below_range count first zero rows h = tt
below_range count first (suc n) rows h =
    below_append count (of_number first rows) (flat_map (λ number. of_number number rows) (range_with_len (first + 1) n))
    (below_one count first rows (omega (arith, h))) (below_range count (first + 1) n rows (omega (arith, h)))

-- rows with other numbers
abbrev pub named : (ℕ → ℕ) → List (ℕ × Row) → List (Option ℕ × Row)
named name rows = map (λ (row : ℕ × Row). (Some (name row.0), row.1)) rows

-- those of one number have one name
pub named_one : (name : ℕ → ℕ) (number : ℕ) (rows : List (ℕ × Row)) →
    map (λ (row : ℕ × Row). (Some (name number), row.1)) (of_number number rows) ≡ named name (of_number number rows)
named_one name number [] = refl
named_one name number (row ∷ rows) = by (cases_Bool (row.0 == number)) (named_one name number rows)
  where
    by : ((row.0 == number) ≡ true) ⊎ ((row.0 == number) ≡ false) →
        map (λ (row : ℕ × Row). (Some (name number), row.1)) (of_number number rows) ≡ named name (of_number number rows) →
        map (λ (row : ℕ × Row). (Some (name number), row.1)) (of_number number (row ∷ rows)) ≡ named name (of_number number (row ∷ rows))
    by (inl on) rest =
        let same : number ≡ row.0 = sym (eqb-true row.0 number on) in
        rw on (ap (λ some. (Some (name number), row.1) ∷ some) rest
        ∙ ap (λ (n : ℕ). (Some (name n), row.1) ∷ named name (of_number number rows)) same)
    by (inr off) rest = rw off rest

module _ (name : ℕ → ℕ) (count number : ℕ) (there : number < count) (other : (i j : ℕ) → i < count → j < count → name i ≡ name j → i ≡ j) where
  named_below : (rows : List (ℕ × Row)) → Below count rows →
      filter (λ (row : Option ℕ × Row). comes_of (name number) row.0) (named name rows) ≡ named name (of_number number rows)
  named_below [] below = refl
  named_below (row ∷ rows) below = by (cases_Bool (row.0 == number)) (named_below rows below.1)
    where
      by : ((row.0 == number) ≡ true) ⊎ ((row.0 == number) ≡ false) →
          filter (λ (row : Option ℕ × Row). comes_of (name number) row.0) (named name rows) ≡ named name (of_number number rows) →
          filter (λ (row : Option ℕ × Row). comes_of (name number) row.0) (named name (row ∷ rows)) ≡ named name (of_number number (row ∷ rows))
      by (inl on) rest =
          let same : (name row.0 == name number) ≡ true = eq-eqb (name row.0) (name number) (ap name (eqb-true row.0 number on)) in
          rw (on, same, rest) refl
      by (inr off) rest =
          let differ : (name row.0 == name number) ≡ false =
          ne-eqb (name row.0) (name number) (λ e. eqb-false row.0 number off (other row.0 number below.0 there e)) in
          rw (off, differ, rest) refl

  -- those of one number
  pub named_of : (rows : List (ℕ × Row)) → rows ≡ flat_map (λ n. of_number n rows) (range_with_len 0 count) →
      filter (λ (row : Option ℕ × Row). comes_of (name number) row.0) (named name rows) ≡ named name (of_number number rows)
  named_of rows order = named_below rows (subst (Below count) (sym order) (below_range count 0 count rows (omega arith)))

-- ---- numbers that rise

rise_lower : (low lower : ℕ) (numbers : List ℕ) → lower ≤ low → Rise low numbers → Rise lower numbers
rise_lower low lower [] h rise = tt
rise_lower low lower (number ∷ numbers) h rise = (omega (arith, h, rise.0), rise.1)

-- those of a range that pass a test do
pub range_rises : (test : ℕ → Bool) (first n : ℕ) → Rise first (filter test (range_with_len first n))
range_rises test first zero = tt
range_rises test first (suc n) = by (cases_Bool (test first)) (range_rises test (first + 1) n)
  where
    by : (test first ≡ true) ⊎ (test first ≡ false) → Rise (first + 1) (filter test (range_with_len (first + 1) n)) → Rise first (filter test (range_with_len first (suc n)))
    by (inl on) rest = rw on (omega arith, rest)
    by (inr off) rest = rw off (rise_lower (first + 1) first (filter test (range_with_len (first + 1) n)) (omega arith) rest)

rise_low : (low : ℕ) (pairs : List (ℕ × ℕ)) (i : ℕ) → Rise low (map (λ (pair : ℕ × ℕ). pair.1) pairs) → i < length pairs → low ≤ table_number pairs i
rise_low low [] i rise h = absurd (omega (arith, h))
rise_low low (pair ∷ pairs) zero rise h = rise.0
rise_low low (pair ∷ pairs) (suc i) rise h =
    let later = rise_low (pair.1 + 1) pairs i rise.1 (omega (arith, h)) in
    omega (arith, rise.0, later)

rise_order : (low : ℕ) (pairs : List (ℕ × ℕ)) (i j : ℕ) → Rise low (map (λ (pair : ℕ × ℕ). pair.1) pairs) → i < j → j < length pairs →
    table_number pairs i < table_number pairs j
rise_order low [] i j rise less h = absurd (omega (arith, h))
rise_order low (pair ∷ pairs) i zero rise less h = absurd (omega (arith, less))
rise_order low (pair ∷ pairs) zero (suc j) rise less h =
    let later = rise_low (pair.1 + 1) pairs j rise.1 (omega (arith, h)) in
    omega (arith, later)
rise_order low (pair ∷ pairs) (suc i) (suc j) rise less h = rise_order (pair.1 + 1) pairs i j rise.1 (omega (arith, less)) (omega (arith, h))

-- so no two are the same
pub rise_once : (low : ℕ) (pairs : List (ℕ × ℕ)) (i j : ℕ) → Rise low (map (λ (pair : ℕ × ℕ). pair.1) pairs) → i < length pairs → j < length pairs →
    table_number pairs i ≡ table_number pairs j → i ≡ j
rise_once low pairs i j rise here there same = by (cases_lt i j) (cases_lt j i)
  where
    by : (i < j) ⊎ (j ≤ i) → (j < i) ⊎ (i ≤ j) → i ≡ j
    by (inl less) other = let order = rise_order low pairs i j rise less there in absurd (omega (arith, order, same))
    by (inr not) (inl less) = let order = rise_order low pairs j i rise less here in absurd (omega (arith, order, same))
    by (inr not) (inr other) = omega (arith, not, other)
