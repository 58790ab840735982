-- Where the batches of a table stand.
use Rattle.std.proofs.Common.{◌≡◌, ◌≤◌, ◌<◌, ◌⊎◌, inl, inr, ℕ, ◌+◌, List, length, take, drop, slice_get, Some, sym, ap, ◌∙◌, arith}
use Rattle.std.specs.List.{flat_map}
use Rattle.std.proofs.lemmas.Bool.{cases_lt}
use Rattle.std.proofs.lemmas.List.{take-append-drop, take-take, take_all}
use Rattle.arrays.specs.Batch.{BatchAt, rows_of}
use Rattle.table_versions.specs.Standing.{rows_before, BatchesAreRows}
use Rattle.table_versions.specs.StoredTables.{TableAt, table_of}
use Rattle.table_versions.proofs.Rowing.{rows-append}

-- no fewer rows before a later batch
pub grows : (batches : List BatchAt) (i j : ℕ) → i ≤ j → rows_before batches i ≤ rows_before batches j
grows batches i j h =
    let whole = ap (λ (some : List BatchAt). length (flat_map rows_of some)) (sym (take-append-drop i (take j batches)))
    ∙ rows-append (take i (take j batches)) (drop i (take j batches)) in
    let front = ap (λ (some : List BatchAt). length (flat_map rows_of some)) (take-take i j batches h) in
    omega (arith, whole, front)

-- and all rows after the last one
pub in_all : (batches : List BatchAt) (i : ℕ) → i ≤ length batches → rows_before batches i ≤ length (flat_map rows_of batches)
in_all batches i h =
    let all = ap (λ (some : List BatchAt). length (flat_map rows_of some)) (take_all (length batches) batches (omega arith)) in
    omega (arith, grows batches i (length batches) h, all)

-- after all of them stand all rows
pub behind_all : (batches : List BatchAt) (i : ℕ) → length batches ≤ i → rows_before batches i ≡ length (flat_map rows_of batches)
behind_all batches i h = ap (λ (some : List BatchAt). length (flat_map rows_of some)) (take_all i batches h)

module _ (table : TableAt) (index start end : ℕ) (s : start ≡ rows_before table.batches index) (more : start < end) (ends : end ≤ length (table_of table).rows) where
  -- the batch is there
  pub batch_is : index < length table.batches
  batch_is = by (cases_lt index (length table.batches))
    where
      by : (index < length table.batches) ⊎ (length table.batches ≤ index) → index < length table.batches
      by (inl there) = there
      by (inr past) = let all = behind_all table.batches index past in absurd (omega (arith, all, s, more, ends))

  module _ (standing : BatchesAreRows) (batch : BatchAt) (there : slice_get table.batches index ≡ Some batch) where
    -- the next one stands after its rows
    pub start_next : start + batch.rows ≡ rows_before table.batches (index + 1)
    start_next = let e = ((standing table).1 index batch there).next in omega (arith, e, s)

    pub start_few : start + batch.rows ≤ length (table_of table).rows
    start_few = let all = in_all table.batches (index + 1) (omega (arith, batch_is)) in omega (arith, all, start_next)
