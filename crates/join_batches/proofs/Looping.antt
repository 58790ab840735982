-- The rows that pairs stand for are those of nested loops.
use Rattle.std.proofs.Common.{◌≡◌, ℕ, ◌+◌, ◌-◌, ◌==◌, Bool, true, false, if◌then◌else◌, List, [], ◌∷◌, ◌++◌, length, map, drop, zip, refl, ap, ◌∙◌, arith}
use Rattle.std.specs.List.{filter, flat_map, range_with_len}
use Rattle.std.proofs.lemmas.List.{map-append}
use Rattle.scan_base.specs.declared.value.Value.{Value}
use Rattle.arrays.specs.Batch.{BatchAt, rows_of, row_of}
use Rattle.hash_join.specs.declared.pair.Pair.{Pair}
use Rattle.hash_join.specs.Pairs.{BuildAt, key_values, keys_join, places, row_at, pairs_of, pairs_ahead}
use Rattle.join_batches.specs.Rows.{batch_numbered, pair_row}
use Rattle.join_batches.proofs.Numbered.{first_at, others_from}

-- ---- the rows at all places are all rows

-- the rows of one batch
rows_in : (all : List BatchAt) (batch : BatchAt) (number : ℕ) → batch_numbered all number ≡ batch → (rows : List ℕ) →
    map (row_at all) (map (λ (row : ℕ). (number, row)) rows) ≡ map (row_of batch.columns) rows
rows_in all batch number is [] = refl
rows_in all batch number is (row ∷ rows) =
    ap (λ (b : BatchAt). row_of b.columns row ∷ map (row_at all) (map (λ (row : ℕ). (number, row)) rows)) is
    ∙ ap (λ (rest : List (List Value)). row_of batch.columns row ∷ rest) (rows_in all batch number is rows)

-- the rows of the batches from a number on
rows_from : (all rest : List BatchAt) (number : ℕ) → drop number all ≡ rest →
    map (row_at all) (flat_map (λ (p : ℕ × BatchAt). map (λ row. (p.0, row)) (range_with_len 0 p.1.rows)) (zip (range_with_len number (length rest)) rest))
    ≡ flat_map rows_of rest
rows_from all [] number is = refl
rows_from all (batch ∷ rest) number is =
    map-append (row_at all) (map (λ (row : ℕ). (number, row)) (range_with_len 0 batch.rows))
    (flat_map (λ (p : ℕ × BatchAt). map (λ row. (p.0, row)) (range_with_len 0 p.1.rows)) (zip (range_with_len (number + 1) (length rest)) rest))
    ∙ ap (λ (front : List (List Value)). front ++ map (row_at all)
    (flat_map (λ (p : ℕ × BatchAt). map (λ row. (p.0, row)) (range_with_len 0 p.1.rows)) (zip (range_with_len (number + 1) (length rest)) rest)))
    (rows_in all batch number (first_at all number batch rest is) (range_with_len 0 batch.rows))
    ∙ ap (λ (back : List (List Value)). rows_of batch ++ back) (rows_from all rest (number + 1) (others_from all number batch rest is))

pub rows_at_places : (batches : List BatchAt) → map (row_at batches) (places batches) ≡ flat_map rows_of batches
rows_at_places batches = rows_from batches batches 0 refl

-- ---- the pairs of left rows

-- the pairs of a left row with the places among some whose rows join it
abbrev found : BuildAt → BatchAt → List ℕ → ℕ → List (ℕ × ℕ) → List Pair
found build left key row some =
    map (λ (place : ℕ × ℕ). record { left = row; batch = place.0; row = place.1 })
    (filter (λ place. keys_join (key_values key (row_of left.columns row)) (key_values build.key (row_at build.batches place))) some)

-- a left row with each of the right rows that joins it
abbrev pub with_each : BuildAt → List ℕ → List (List Value) → List Value → List (List Value)
with_each build key rights row = map (λ right. row ++ right) (filter (λ right. keys_join (key_values key row) (key_values build.key right)) rights)

module _ (build : BuildAt) (left : BatchAt) (key : List ℕ) where
  of_row : (row : ℕ) (some : List (ℕ × ℕ)) →
      map (pair_row build.batches left) (found build left key row some)
      ≡ with_each build key (map (row_at build.batches) some) (row_of left.columns row)
  of_row row [] = refl
  of_row row (place ∷ some) = by (of_row row some) (keys_join (key_values key (row_of left.columns row)) (key_values build.key (row_at build.batches place))) refl
    where
      by : map (pair_row build.batches left) (found build left key row some)
          ≡ with_each build key (map (row_at build.batches) some) (row_of left.columns row) →
          (b : Bool) → keys_join (key_values key (row_of left.columns row)) (key_values build.key (row_at build.batches place)) ≡ b →
          map (pair_row build.batches left) (found build left key row (place ∷ some))
          ≡ with_each build key (map (row_at build.batches) (place ∷ some)) (row_of left.columns row)
      by again true e = rw e (ap (λ (rows : List (List Value)). (row_of left.columns row ++ row_at build.batches place) ∷ rows) again)
      by again false e = rw e again

  -- from the first place on
  nothing_yet : (b : Bool) → ◌≡◌ {A = ℕ} (if b then 0 else 0) 0
  nothing_yet true = refl
  nothing_yet false = refl

  of_rows : (rows : List ℕ) →
      map (pair_row build.batches left) (flat_map (λ row. pairs_of build left key row (if row == 0 then 0 else 0)) rows)
      ≡ flat_map (with_each build key (flat_map rows_of build.batches)) (map (row_of left.columns) rows)
  of_rows [] = refl
  of_rows (row ∷ rows) =
      map-append (pair_row build.batches left) (pairs_of build left key row (if row == 0 then 0 else 0))
      (flat_map (λ row. pairs_of build left key row (if row == 0 then 0 else 0)) rows)
      ∙ ap (λ (front : List (List Value)). front ++ map (pair_row build.batches left)
      (flat_map (λ row. pairs_of build left key row (if row == 0 then 0 else 0)) rows))
      (ap (λ (from : ℕ). map (pair_row build.batches left) (pairs_of build left key row from)) (nothing_yet (row == 0))
      ∙ of_row row (places build.batches)
      ∙ ap (λ (some : List (List Value)). with_each build key some (row_of left.columns row)) (rows_at_places build.batches))
      ∙ ap (λ (back : List (List Value)). with_each build key (flat_map rows_of build.batches) (row_of left.columns row) ++ back) (of_rows rows)

  -- the rows that all pairs stand for are those of nested loops
  pub pairs_are_loops :
      map (pair_row build.batches left) (pairs_ahead build left key (record { left = 0; from = 0 }))
      ≡ flat_map (with_each build key (flat_map rows_of build.batches)) (rows_of left)
  pairs_are_loops =
      let all : left.rows - 0 ≡ left.rows = omega arith in
      of_rows (range_with_len 0 (left.rows - 0))
      ∙ ap (λ (n : ℕ). flat_map (with_each build key (flat_map rows_of build.batches)) (map (row_of left.columns) (range_with_len 0 n))) all
