-- The places of pairs are there.
use Rattle.std.proofs.Common.{◌≡◌, ◌≤◌, ◌<◌, ℕ, zero, suc, ◌+◌, ◌-◌, ◌==◌, List, [], ◌∷◌, ◌++◌, All, length, map, drop, zip, if◌then◌else◌, refl, sym, arith, subst}
use Rattle.std.specs.List.{filter, flat_map, range_with_len}
use Rattle.std.proofs.lemmas.List.Elements.{All-nil, All-cons, All-head, All-tail, All-append, All-map, All-filter, All-drop, All-weaker}
use Rattle.arrays.specs.Batch.{BatchAt, row_of}
use Rattle.hash_join.specs.declared.pair.Pair.{Pair}
use Rattle.hash_join.specs.declared.build.Probe.{Probe}
use Rattle.hash_join.specs.Pairs.{BuildAt, key_values, keys_join, places, row_at, pairs_of, pairs_ahead}
use Rattle.join_batches.specs.Rows.{batch_numbered, IsPair}
use Rattle.join_batches.proofs.Numbered.{first_at, first_within, others_from}

-- the numbers of a range are below its end
all_below : (first n end : ℕ) → first + n ≤ end → All (λ (row : ℕ). row < end) (range_with_len first n)
all_below first zero end h = All-nil (λ (row : ℕ). row < end)
all_below first (suc n) end h =
    All-cons (λ (row : ℕ). row < end) first (range_with_len (first + 1) n) (omega (arith, h)) (all_below (first + 1) n end (omega (arith, h)))

-- a place of a row of batches
record IsPlace (all : List BatchAt) (place : ℕ × ℕ) : Type 0 where
  batch : place.0 < length all
  row : place.1 < (batch_numbered all place.0).rows

places_from : (all rest : List BatchAt) (number : ℕ) → drop number all ≡ rest →
    All (IsPlace all) (flat_map (λ (p : ℕ × BatchAt). map (λ row. (p.0, row)) (range_with_len 0 p.1.rows)) (zip (range_with_len number (length rest)) rest))
places_from all [] number is = All-nil (IsPlace all)
places_from all (batch ∷ rest) number is =
    All-append (IsPlace all) (map (λ (row : ℕ). (number, row)) (range_with_len 0 batch.rows))
    (flat_map (λ (p : ℕ × BatchAt). map (λ row. (p.0, row)) (range_with_len 0 p.1.rows)) (zip (range_with_len (number + 1) (length rest)) rest))
    (All-map (IsPlace all) (λ (row : ℕ). (number, row)) (range_with_len 0 batch.rows)
    (All-weaker (λ (row : ℕ). row < batch.rows) (λ (row : ℕ). IsPlace all (number, row))
    (λ row low. record { batch = first_within all number batch rest is; row = subst (λ (b : BatchAt). row < b.rows) (sym (first_at all number batch rest is)) low })
    (range_with_len 0 batch.rows) (all_below 0 batch.rows batch.rows (omega arith))))
    (places_from all rest (number + 1) (others_from all number batch rest is))

all_places : (batches : List BatchAt) → All (IsPlace batches) (places batches)
all_places batches = places_from batches batches 0 refl

module _ (build : BuildAt) (left : BatchAt) (key : List ℕ) where
  pairs_there : (row from : ℕ) → row < left.rows → All (IsPair build.batches left) (pairs_of build left key row from)
  pairs_there row from low =
      let test = λ (place : ℕ × ℕ). keys_join (key_values key (row_of left.columns row)) (key_values build.key (row_at build.batches place)) in
      let some = drop from (places build.batches) in
      All-map (IsPair build.batches left) (λ (place : ℕ × ℕ). record { left = row; batch = place.0; row = place.1 }) (filter test some)
      (All-weaker (IsPlace build.batches) (λ (place : ℕ × ℕ). IsPair build.batches left (record { left = row; batch = place.0; row = place.1 }))
      (λ place is. record { left_row = low; batch = is.batch; right_row = is.row }) (filter test some)
      (All-filter test (IsPlace build.batches) some (All-drop (IsPlace build.batches) from (places build.batches) (all_places build.batches))))

  rows_there : (probe : Probe) (first n : ℕ) → first + n ≤ left.rows →
      All (IsPair build.batches left) (flat_map (λ row. pairs_of build left key row (if row == probe.left then probe.from else 0)) (range_with_len first n))
  rows_there probe first zero h = All-nil (IsPair build.batches left)
  rows_there probe first (suc n) h =
      All-append (IsPair build.batches left) (pairs_of build left key first (if first == probe.left then probe.from else 0))
      (flat_map (λ row. pairs_of build left key row (if row == probe.left then probe.from else 0)) (range_with_len (first + 1) n))
      (pairs_there first (if first == probe.left then probe.from else 0) (omega (arith, h)))
      (rows_there probe (first + 1) n (omega (arith, h)))

  -- all pairs that are to be found are there
  ahead_there : (probe : Probe) (n : ℕ) → n ≡ left.rows - probe.left →
      All (IsPair build.batches left) (flat_map (λ row. pairs_of build left key row (if row == probe.left then probe.from else 0)) (range_with_len probe.left n))
  ahead_there probe zero e = All-nil (IsPair build.batches left)
  ahead_there probe (suc n) e = rows_there probe probe.left (suc n) (omega (arith, e))

  -- and so are those that were found of them
  pub found_there : (probe : Probe) (some more : List Pair) → some ++ more ≡ pairs_ahead build left key probe → All (IsPair build.batches left) some
  found_there probe some more e =
      first some more (subst (λ (all : List Pair). All (IsPair build.batches left) all) (sym e) (ahead_there probe (left.rows - probe.left) refl))
    where
      first : (some more : List Pair) → All (IsPair build.batches left) (some ++ more) → All (IsPair build.batches left) some
      first [] more all = All-nil (IsPair build.batches left)
      first (pair ∷ some) more all =
          All-cons (IsPair build.batches left) pair some (All-head (IsPair build.batches left) pair (some ++ more) all)
          (first some more (All-tail (IsPair build.batches left) pair (some ++ more) all))
