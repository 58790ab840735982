-- Rows with numbers, number by number.
use Rattle.std.proofs.Common.{◌≡◌, ◌≤◌, ◌<◌, ◌⊎◌, inl, inr, ℕ, zero, suc, ◌+◌, ◌==◌, true, false, List, [], ◌∷◌, ◌++◌, length, map, slice_get, Some, refl, sym, ap, ◌∙◌, arith, append-nil}
use Rattle.std.specs.List.{flat_map, range_with_len, zip}
use Rattle.std.proofs.lemmas.Bool.{cases_Bool, eq-eqb, eqb-true}
use Rattle.std.proofs.lemmas.List.{map-append}
use Rattle.std.proofs.lemmas.List.Elements.{filter-append}
use Rattle.std.proofs.lemmas.Simd.{map-map}
use Rattle.std.proofs.lemmas.Grind.{flat_map-append}
use Rattle.table_versions.specs.Table.{Row}
use Rattle.row_sources.specs.Parting.{of_number}

-- two numbers that are not the same
pub ne-eqb : (a b : ℕ) → (a ≡ b → ⊥) → (a == b) ≡ false
ne-eqb a b h = by (cases_Bool (a == b))
  where
    by : ((a == b) ≡ true) ⊎ ((a == b) ≡ false) → (a == b) ≡ false
    by (inl on) = absurd (h (eqb-true a b on))
    by (inr off) = off

-- lists that are the same for each number of a range
pub same_lists : {Y : Type 0} (f g : ℕ → List Y) (first n : ℕ) → ((k : ℕ) → first ≤ k → k < first + n → f k ≡ g k) →
    flat_map f (range_with_len first n) ≡ flat_map g (range_with_len first n)
same_lists f g first zero same = refl
same_lists f g first (suc n) same =
    ap (λ some. some ++ flat_map f (range_with_len (first + 1) n)) (same first (omega arith) (omega arith))
    ∙ ap (λ some. g first ++ some) (same_lists f g (first + 1) n (λ k low high. same k (omega (arith, low)) (omega (arith, high))))

-- what is made of a list of lists
pub map-flat_map : {A X Y : Type 0} (h : X → Y) (f : A → List X) (xs : List A) → map h (flat_map f xs) ≡ flat_map (λ a. map h (f a)) xs
map-flat_map h f [] = refl
map-flat_map h f (x ∷ xs) = map-append h (f x) (flat_map f xs) ∙ ap (λ some. map h (f x) ++ some) (map-flat_map h f xs)

-- rows of one batch
abbrev pub with_number : ℕ → List Row → List (ℕ × Row)
with_number number xs = map (λ (x : Row). (number, x)) xs

all_of : (number : ℕ) (xs : List Row) → of_number number (with_number number xs) ≡ with_number number xs
all_of number [] = refl
all_of number (x ∷ xs) = rw (eq-eqb number number refl, all_of number xs) refl

none_of : (number other : ℕ) (xs : List Row) → (number == other) ≡ false → of_number other (with_number number xs) ≡ []
none_of number other [] e = refl
none_of number other (x ∷ xs) e = rw (e, none_of number other xs e) refl

-- lists that are counted
abbrev pub counted : ℕ → List (List Row) → List (ℕ × Row)
counted first lists = flat_map (λ (part : ℕ × List Row). map (λ (x : Row). (part.0, x)) part.1) (zip (range_with_len first (length lists)) lists)

counted_none : (number first : ℕ) (lists : List (List Row)) → number < first → of_number number (counted first lists) ≡ []
counted_none number first [] h = refl
counted_none number first (xs ∷ lists) h =
    filter-append (λ (row : ℕ × Row). row.0 == number) (with_number first xs) (counted (first + 1) lists)
    ∙ ap (λ some. some ++ of_number number (counted (first + 1) lists)) (none_of first number xs (ne-eqb first number (λ e. omega (arith, e, h))))
    ∙ counted_none number (first + 1) lists (omega (arith, h))

-- those of the first list
counted_first : (first : ℕ) (xs : List Row) (lists : List (List Row)) → of_number first (counted first (xs ∷ lists)) ≡ with_number first xs
counted_first first xs lists =
    filter-append (λ (row : ℕ × Row). row.0 == first) (with_number first xs) (counted (first + 1) lists)
    ∙ ap (λ some. some ++ of_number first (counted (first + 1) lists)) (all_of first xs)
    ∙ ap (λ some. with_number first xs ++ some) (counted_none first (first + 1) lists (omega arith))
    ∙ append-nil (with_number first xs)

-- and of those after it
counted_later : (first number : ℕ) (xs : List Row) (lists : List (List Row)) → first < number →
    of_number number (counted first (xs ∷ lists)) ≡ of_number number (counted (first + 1) lists)
counted_later first number xs lists h =
    filter-append (λ (row : ℕ × Row). row.0 == number) (with_number first xs) (counted (first + 1) lists)
    ∙ ap (λ some. some ++ of_number number (counted (first + 1) lists)) (none_of first number xs (ne-eqb first number (λ e. omega (arith, e, h))))

-- those of a list
pub counted_at : (first i : ℕ) (lists : List (List Row)) (xs : List Row) → slice_get lists i ≡ Some xs →
    of_number (first + i) (counted first lists) ≡ with_number (first + i) xs
counted_at first i [] xs e = cc
counted_at first zero (some ∷ lists) xs e =
    let here : first + 0 ≡ first = omega arith in
    let same : some ≡ xs = cc in
    ap (λ (n : ℕ). of_number n (counted first (some ∷ lists))) here ∙ counted_first first some lists
    ∙ ap (λ (n : ℕ). with_number n some) (sym here) ∙ ap (with_number (first + 0)) same
counted_at first (suc i) (some ∷ lists) xs e =
    let there : first + suc i ≡ first + 1 + i = omega arith in
    counted_later first (first + suc i) some lists (omega arith)
    ∙ ap (λ (n : ℕ). of_number n (counted (first + 1) lists)) there ∙ counted_at (first + 1) i lists xs e
    ∙ ap (λ (n : ℕ). with_number n xs) (sym there)

-- they come number by number
pub counted_all : (first : ℕ) (lists : List (List Row)) →
    counted first lists ≡ flat_map (λ number. of_number number (counted first lists)) (range_with_len first (length lists))
counted_all first [] = refl
counted_all first (xs ∷ lists) =
    ap (λ some. with_number first xs ++ some) (counted_all (first + 1) lists
    ∙ same_lists (λ number. of_number number (counted (first + 1) lists)) (λ number. of_number number (counted first (xs ∷ lists))) (first + 1) (length lists)
    (λ k low high. sym (counted_later first k xs lists (omega (arith, low)))))
    ∙ ap (λ some. some ++ flat_map (λ number. of_number number (counted first (xs ∷ lists))) (range_with_len (first + 1) (length lists)))
    (sym (counted_first first xs lists))

-- ---- rows that are made of each row

module _ (f : Row → List Row) where
  -- of each row some, with its number
  abbrev pub of_each : List (ℕ × Row) → List (ℕ × Row)
  of_each rows = flat_map (λ (row : ℕ × Row). map (λ (y : Row). (row.0, y)) (f row.1)) rows

  pub each_number : (number : ℕ) (rows : List (ℕ × Row)) → of_number number (of_each rows) ≡ of_each (of_number number rows)
  each_number number [] = refl
  each_number number (row ∷ rows) =
      filter-append (λ (row : ℕ × Row). row.0 == number) (with_number row.0 (f row.1)) (of_each rows)
      ∙ ap (λ some. of_number number (with_number row.0 (f row.1)) ++ some) (each_number number rows)
      ∙ by (cases_Bool (row.0 == number))
    where
      by : ((row.0 == number) ≡ true) ⊎ ((row.0 == number) ≡ false) →
          of_number number (with_number row.0 (f row.1)) ++ of_each (of_number number rows) ≡ of_each (of_number number (row ∷ rows))
      by (inl on) =
          let same : number ≡ row.0 = sym (eqb-true row.0 number on) in
          rw on (ap (λ (n : ℕ). of_number n (with_number row.0 (f row.1)) ++ of_each (of_number number rows)) same
          ∙ ap (λ some. some ++ of_each (of_number number rows)) (all_of row.0 (f row.1)))
      by (inr off) = rw off (ap (λ some. some ++ of_each (of_number number rows)) (none_of row.0 number (f row.1) off))

  -- with another number
  pub each_renamed : (number : ℕ) (rows : List (ℕ × Row)) →
      map (λ (row : ℕ × Row). (number, row.1)) (of_each rows) ≡ of_each (map (λ (row : ℕ × Row). (number, row.1)) rows)
  each_renamed number [] = refl
  each_renamed number (row ∷ rows) =
      map-append (λ (row : ℕ × Row). (number, row.1)) (with_number row.0 (f row.1)) (of_each rows)
      ∙ ap (λ some. some ++ map (λ (row : ℕ × Row). (number, row.1)) (of_each rows)) (map-map (λ (row : ℕ × Row). (number, row.1)) (λ (y : Row). (row.0, y)) (f row.1))
      ∙ ap (λ some. with_number number (f row.1) ++ some) (each_renamed number rows)

  each_lists : (g : ℕ → List (ℕ × Row)) (numbers : List ℕ) → of_each (flat_map g numbers) ≡ flat_map (λ number. of_each (g number)) numbers
  each_lists g [] = refl
  each_lists g (number ∷ numbers) =
      flat_map-append (λ (row : ℕ × Row). map (λ (y : Row). (row.0, y)) (f row.1)) (g number) (flat_map g numbers)
      ∙ ap (λ some. of_each (g number) ++ some) (each_lists g numbers)

  -- they come number by number where those do
  pub each_order : (rows : List (ℕ × Row)) (numbers : List ℕ) → rows ≡ flat_map (λ number. of_number number rows) numbers →
      of_each rows ≡ flat_map (λ number. of_number number (of_each rows)) numbers
  each_order rows numbers order =
      ap of_each order ∙ each_lists (λ number. of_number number rows) numbers ∙ along numbers
    where
      along : (numbers : List ℕ) → flat_map (λ number. of_each (of_number number rows)) numbers ≡ flat_map (λ number. of_number number (of_each rows)) numbers
      along [] = refl
      along (number ∷ numbers) =
          ap (λ some. some ++ flat_map (λ number. of_each (of_number number rows)) numbers) (sym (each_number number rows))
          ∙ ap (λ some. of_number number (of_each rows) ++ some) (along numbers)
