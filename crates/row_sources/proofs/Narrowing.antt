-- What holds of a table holds of some of its batches alone.
use Rattle.std.proofs.Common.{◌≡◌, ◌<◌, ℕ, zero, suc, Bool, true, false, All, List, [], ◌∷◌, ◌++◌, length, nat_lt, get_or, slice_get, Option, Some, None, refl, sym, ap, ◌∙◌, subst, arith}
use Rattle.std.specs.List.{flat_map, list_all, list_any}
use Rattle.std.specs.Option.{option_to_list}
use Rattle.std.proofs.lemmas.Bool.{and_parts, and_from, ltb-true}
use Rattle.std.proofs.lemmas.List.Elements.{All-nil, All-cons, All-head, All-tail}
use Rattle.std.proofs.lemmas.List.Folds.{list_any-append}
use Rattle.arrays.specs.Batch.{BatchAt, rows_of}
use Rattle.arrays.specs.TypedLayouts.{AreOfTypes}
use Rattle.table_versions.specs.KeptTables.{IsKept, Stands}
use Rattle.table_versions.proofs.Storable.{first_false, second_false}
use Rattle.table_versions.specs.StoredTables.{TableAt, has_rows}
use Rattle.table_versions.specs.Table.{Row, has_bad_cell, is_long_text}
use Rattle.batch_skipping.specs.ChosenColumns.{are_within}
use Rattle.batch_skipping.specs.Narrow.{CanNarrow, batches_at, narrowed}

-- what is there, at a place
pub there_at : {X : Type 0} (xs : List X) (i : ℕ) → i < length xs → (x : X) × (slice_get xs i ≡ Some x)
there_at [] i h = absurd (omega (arith, h))
there_at (x ∷ xs) zero h = (x, refl)
there_at (x ∷ xs) (suc i) h = there_at xs i (omega (arith, h))

-- what holds of each batch holds of each of these numbers
module _ (P : BatchAt → Type 0) where
  pub one_of : (batches : List BatchAt) → All P batches → (i : ℕ) (batch : BatchAt) → slice_get batches i ≡ Some batch → P batch
  one_of [] all i batch e = cc
  one_of (b ∷ batches) all zero batch e = let same : b ≡ batch = cc in subst P same (All-head P b batches all)
  one_of (b ∷ batches) all (suc i) batch e = one_of batches (All-tail P b batches all) i batch e

  pub all_at : (batches : List BatchAt) → All P batches → (numbers : List ℕ) → All P (batches_at numbers batches)
  all_at batches all [] = All-nil P
  all_at batches all (number ∷ numbers) = by (slice_get batches number) refl (all_at batches all numbers)
    where
      by : (found : Option BatchAt) → slice_get batches number ≡ found → All P (batches_at numbers batches) → All P (option_to_list found ++ batches_at numbers batches)
      by None e rest = rest
      by (Some batch) e rest = All-cons P batch (batches_at numbers batches) (one_of batches all number batch e) rest

-- a test that no row passes, no row of a batch passes
none_each : (test : Row → Bool) (batches : List BatchAt) → list_any test (flat_map rows_of batches) ≡ false →
    All (λ (batch : BatchAt). list_any test (rows_of batch) ≡ false) batches
none_each test [] h = All-nil (λ (batch : BatchAt). list_any test (rows_of batch) ≡ false)
none_each test (batch ∷ batches) h =
    let both = sym (list_any-append test (rows_of batch) (flat_map rows_of batches)) ∙ h in
    All-cons (λ (b : BatchAt). list_any test (rows_of b) ≡ false) batch batches
    (first_false (list_any test (rows_of batch)) (list_any test (flat_map rows_of batches)) both)
    (none_each test batches (second_false (list_any test (rows_of batch)) (list_any test (flat_map rows_of batches)) both))

each_none : (test : Row → Bool) (batches : List BatchAt) → All (λ (batch : BatchAt). list_any test (rows_of batch) ≡ false) batches →
    list_any test (flat_map rows_of batches) ≡ false
each_none test [] all = refl
each_none test (batch ∷ batches) all =
    let one : BatchAt → Type 0 = λ b. list_any test (rows_of b) ≡ false in
    list_any-append test (rows_of batch) (flat_map rows_of batches)
    ∙ rw (All-head one batch batches all, each_none test batches (All-tail one batch batches all)) refl

none_at : (test : Row → Bool) (batches : List BatchAt) (numbers : List ℕ) → list_any test (flat_map rows_of batches) ≡ false →
    list_any test (flat_map rows_of (batches_at numbers batches)) ≡ false
none_at test batches numbers h =
    each_none test (batches_at numbers batches) (all_at (λ (b : BatchAt). list_any test (rows_of b) ≡ false) batches (none_each test batches h) numbers)

pub filled_each : (batches : List BatchAt) → list_all has_rows batches ≡ true → All (λ (batch : BatchAt). has_rows batch ≡ true) batches
filled_each [] h = All-nil (λ (batch : BatchAt). has_rows batch ≡ true)
filled_each (batch ∷ batches) h =
    let both = and_parts (has_rows batch) (list_all has_rows batches) h in
    All-cons (λ (b : BatchAt). has_rows b ≡ true) batch batches both.0 (filled_each batches both.1)

each_filled : (batches : List BatchAt) → All (λ (batch : BatchAt). has_rows batch ≡ true) batches → list_all has_rows batches ≡ true
each_filled [] all = refl
each_filled (batch ∷ batches) all =
    let one : BatchAt → Type 0 = λ b. has_rows b ≡ true in
    and_from (has_rows batch) (list_all has_rows batches) (All-head one batch batches all) (each_filled batches (All-tail one batch batches all))

-- a narrowed table is one that could be stored
pub narrowed_kept : (table : TableAt) (numbers : List ℕ) (all rows : ℕ) → IsKept table all → CanNarrow table numbers rows → IsKept (narrowed numbers table) rows
narrowed_kept table numbers all rows kept can = record {
  storable = record {
    valid = kept.storable.valid;
    typed = all_at (λ (batch : BatchAt). AreOfTypes table.schema.fields batch.columns) table.batches kept.storable.typed numbers;
  };
  filled = each_filled (batches_at numbers table.batches) (all_at (λ (batch : BatchAt). has_rows batch ≡ true) table.batches (filled_each table.batches kept.filled) numbers);
  stand = all_at Stands table.batches kept.stand numbers;
  sound = record {
    nulls = none_at (has_bad_cell table.schema.fields) table.batches numbers kept.sound.nulls;
    texts = none_at (list_any is_long_text) table.batches numbers kept.sound.texts;
  };
  counted = can.counted;
  few = can.few;
}

-- as many batches as numbers
pub at_many : (batches : List BatchAt) (numbers : List ℕ) → are_within (length batches) numbers ≡ true → length (batches_at numbers batches) ≡ length numbers
at_many batches [] h = refl
at_many batches (number ∷ numbers) h =
    let both = and_parts (nat_lt number (length batches)) (are_within (length batches) numbers) h in
    let one = there_at batches number (ltb-true number (length batches) both.0) in
    rw one.1 (ap suc (at_many batches numbers both.1))

-- each is the one of its number
pub at_number : (batches : List BatchAt) (numbers : List ℕ) (i : ℕ) → are_within (length batches) numbers ≡ true → i < length numbers →
    slice_get (batches_at numbers batches) i ≡ slice_get batches (get_or numbers i 0)
at_number batches [] i h low = absurd (omega (arith, low))
at_number batches (number ∷ numbers) i h low =
    let both = and_parts (nat_lt number (length batches)) (are_within (length batches) numbers) h in
    let one = there_at batches number (ltb-true number (length batches) both.0) in
    by i low one.0 one.1 (λ j here. at_number batches numbers j both.1 here)
  where
    by : (i : ℕ) → i < length (number ∷ numbers) → (batch : BatchAt) → slice_get batches number ≡ Some batch →
        ((j : ℕ) → j < length numbers → slice_get (batches_at numbers batches) j ≡ slice_get batches (get_or numbers j 0)) →
        slice_get (batches_at (number ∷ numbers) batches) i ≡ slice_get batches (get_or (number ∷ numbers) i 0)
    by zero low batch e rest = rw e refl
    by (suc i) low batch e rest = rw e (rest i (omega (arith, low)))

-- what stands at a place that is there
pub at_any : {X : Type 0} (xs : List X) (i : ℕ) (d e : X) → i < length xs → get_or xs i d ≡ get_or xs i e
at_any [] i d e h = absurd (omega (arith, h))
at_any (x ∷ xs) zero d e h = refl
at_any (x ∷ xs) (suc i) d e h = at_any xs i d e (omega (arith, h))
