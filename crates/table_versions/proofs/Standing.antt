-- Where the rows of a table stand among its batches.
use Rattle.std.proofs.Common.{◌≡◌, ◌≤◌, ℕ, suc, ◌+◌, ◌-◌, List, ◌∷◌, [], ◌++◌, length, take, drop, Some, refl, sym, ap, ◌∙◌, arith, slice_get, length-drop}
use Rattle.std.specs.List.{flat_map}
use Rattle.std.proofs.lemmas.Grind.{common_steps, flat_map-append}
use Rattle.std.proofs.lemmas.List.{take-append-le, drop-append-le}
use Rattle.arrays.specs.Batch.{BatchAt, rows_of, BatchSlicesKeepRows}
use Rattle.table_versions.specs.StoredTables.{TableAt}
use Rattle.table_versions.specs.Standing.{rows_before, StandsAt, BatchesAreRows}
use Rattle.table_versions.proofs.Places.{split_at}
use Rattle.table_versions.proofs.Rowing.{length-rows_of, rows-push}

-- what stands after the first of two lists
drop_past : {X : Type 0} (front rest : List X) (n : ℕ) → drop (length front + n) (front ++ rest) ≡ drop n rest
drop_past [] rest n = let e : 0 + n ≡ n = omega arith in rw e refl
drop_past (x ∷ front) rest n = let e : suc (length front) + n ≡ suc (length front + n) = omega arith in rw e (drop_past front rest n)

-- a cut of the middle of a list
cut_within : {X : Type 0} (front middle rest : List X) (from to : ℕ) → from ≤ to → to ≤ length middle →
    take (to - from) (drop (length front + from) (front ++ (middle ++ rest))) ≡ take (to - from) (drop from middle)
cut_within front middle rest from to ordered within =
    let long : to - from ≤ length (drop from middle) = omega (arith, length-drop from middle, within) in
    ap (take (to - from)) (drop_past front (middle ++ rest) from ∙ drop-append-le from middle rest (omega (arith, ordered, within)))
    ∙ take-append-le (to - from) (drop from middle) rest long

-- the batches before one, it, and those after it
parted : (batches : List BatchAt) (i : ℕ) (batch : BatchAt) → slice_get batches i ≡ Some batch →
    flat_map rows_of batches ≡ flat_map rows_of (take i batches) ++ (rows_of batch ++ flat_map rows_of (drop (i + 1) batches))
parted batches i batch at =
    let whole : batches ≡ take i batches ++ drop i batches = grind (arith, common_steps) in
    ap (flat_map rows_of) whole ∙ flat_map-append rows_of (take i batches) (drop i batches)
    ∙ ap (λ rest. flat_map rows_of (take i batches) ++ flat_map rows_of rest) (split_at batches i batch at).0

stands_at : BatchSlicesKeepRows → (table : TableAt) (i : ℕ) (batch : BatchAt) → slice_get table.batches i ≡ Some batch → StandsAt table i batch
stands_at keep table i batch at = record {
  next = ap (λ front. length (flat_map rows_of front)) (split_at table.batches i batch at).1 ∙ rows-push (take i table.batches) batch;
  cut = λ from to ordered within.
      keep batch from to ordered within
      ∙ sym (cut_within (flat_map rows_of (take i table.batches)) (rows_of batch) (flat_map rows_of (drop (i + 1) table.batches)) from to ordered
      (rw (length-rows_of batch) within))
      ∙ ap (λ rows. take (to - from) (drop (rows_before table.batches i + from) rows)) (sym (parted table.batches i batch at));
}

pub batches_are_rows : BatchSlicesKeepRows → BatchesAreRows
batches_are_rows keep table = (ap (λ batches. length (flat_map rows_of batches)) whole, stands_at keep table)
  where
    whole : take (length table.batches) table.batches ≡ table.batches
    whole = grind (arith, common_steps)
