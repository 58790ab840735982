-- How many rows the batches of a table have.
use Rattle.std.proofs.Common.{◌≡◌, ◌≤◌, ◌<◌, ℕ, ◌+◌, true, List, [], ◌∷◌, ◌++◌, length, refl, ap, ◌∙◌, arith, rules, length-append, get_or, take, drop}
use Rattle.std.specs.List.{flat_map, list_all}
use Rattle.std.proofs.lemmas.Grind.{flat_map-append}
use Rattle.std.proofs.lemmas.List.FromFn.{length-map-range_with_len}
use Rattle.arrays.specs.Batch.{BatchAt, rows_of, row_of}
use Rattle.table_versions.specs.StoredTables.{has_rows}
use Rattle.table_versions.specs.Standing.{rows_before}
use Rattle.std.proofs.lemmas.Option.{slice_get_read}
use Rattle.std.proofs.lemmas.Bool.{and_parts}
use Rattle.table_versions.proofs.Places.{split_at}

pub length-rows_of : (batch : BatchAt) → length (rows_of batch) ≡ batch.rows
length-rows_of batch = length-map-range_with_len (row_of batch.columns) 0 batch.rows

-- the rows of batches and of one more before them
pub rows-cons : (batch : BatchAt) (batches : List BatchAt) →
    length (flat_map rows_of (batch ∷ batches)) ≡ batch.rows + length (flat_map rows_of batches)
rows-cons batch batches =
    length-append (rows_of batch) (flat_map rows_of batches) ∙ ap (λ n. n + length (flat_map rows_of batches)) (length-rows_of batch)

pub rows-append : (batches more : List BatchAt) →
    length (flat_map rows_of (batches ++ more)) ≡ length (flat_map rows_of batches) + length (flat_map rows_of more)
rows-append batches more =
    ap length (flat_map-append rows_of batches more) ∙ length-append (flat_map rows_of batches) (flat_map rows_of more)

-- the rows of batches and of one more after them
pub rows-push : (batches : List BatchAt) (batch : BatchAt) →
    length (flat_map rows_of (batches ++ batch ∷ [])) ≡ length (flat_map rows_of batches) + batch.rows
rows-push batches batch = omega (arith, rows-append batches (batch ∷ []), rows-cons batch [])

-- batches that have rows are no more than those
pub length-filled-le : (batches : List BatchAt) → list_all has_rows batches ≡ true → length batches ≤ length (flat_map rows_of batches)
length-filled-le [] h = omega arith
length-filled-le (batch ∷ batches) h =
    let parts = and_parts (has_rows batch) (list_all has_rows batches) h in
    let some : 1 ≤ batch.rows = search (rules, parts.0) in
    omega (arith, some, rows-cons batch batches, length-filled-le batches parts.1)

-- the rows from a batch on
pub rows-from : (batches : List BatchAt) (batch : BatchAt) (i : ℕ) → i < length batches → batch ≡ get_or batches i batch →
    length (flat_map rows_of (drop i batches)) ≡ batch.rows + length (flat_map rows_of (drop (i + 1) batches))
rows-from batches batch i h at =
    ap (λ left. length (flat_map rows_of left)) (split_at batches i batch (slice_get_read batches (length batches) i batch refl h at)).0
    ∙ rows-cons batch (drop (i + 1) batches)

-- the rows up to after a batch
pub rows-until : (batches : List BatchAt) (batch : BatchAt) (i : ℕ) → i < length batches → batch ≡ get_or batches i batch →
    rows_before batches (i + 1) ≡ rows_before batches i + batch.rows
rows-until batches batch i h at =
    ap (λ front. length (flat_map rows_of front)) (split_at batches i batch (slice_get_read batches (length batches) i batch refl h at)).1
    ∙ rows-push (take i batches) batch
