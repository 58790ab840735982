-- The parts of a range of batches, one after another, are the range.
use Rattle.std.proofs.Common.{◌≡◌, ℕ, zero, suc, ◌-◌, List, [], ◌∷◌, ◌++◌, length, map, take, drop, refl, sym, ap, ◌∙◌, arith, length-drop}
use Rattle.std.specs.List.{flat_map, range_with_len}
use Rattle.std.proofs.lemmas.List.FromFn.{length-range_with_len}
use Rattle.std.proofs.lemmas.Slice.Zip.{seconds-zip}
use Rattle.arrays.specs.Batch.{BatchAt, rows_of}
use Rattle.table_versions.specs.Table.{Row}
use Rattle.table_versions.proofs.Rowing.{length-rows_of}
use Rattle.typed_plan.specs.JoinedRows.{rows_between}
use Rattle.row_sources.specs.Parts.{parts, numbered_parts}
use Rattle.row_sources.proofs.Batched.{none_behind}

take_append : {X : Type 0} (n : ℕ) (xs ys : List X) → take n (xs ++ ys) ≡ take n xs ++ take (n - length xs) ys
take_append zero [] ys = refl
take_append (suc n) [] ys = let e : suc n ≡ suc n - 0 = omega arith in ap (λ (m : ℕ). take m ys) e
take_append zero (x ∷ xs) ys = let e : 0 - length (x ∷ xs) ≡ 0 = omega arith in rw e refl
take_append (suc n) (x ∷ xs) ys =
    let e : suc n - length (x ∷ xs) ≡ n - length xs = omega arith in
    rw e (ap (λ rest. x ∷ rest) (take_append n xs ys))

drop_append : {X : Type 0} (n : ℕ) (xs ys : List X) → drop n (xs ++ ys) ≡ drop n xs ++ drop (n - length xs) ys
drop_append zero [] ys = refl
drop_append (suc n) [] ys = let e : suc n ≡ suc n - 0 = omega arith in ap (λ (m : ℕ). drop m ys) e
drop_append zero (x ∷ xs) ys = let e : 0 - length (x ∷ xs) ≡ 0 = omega arith in rw e refl
drop_append (suc n) (x ∷ xs) ys =
    let e : suc n - length (x ∷ xs) ≡ n - length xs = omega arith in
    rw e (drop_append n xs ys)

-- the rows of a range are those of one list and then those of the other
between_append : (from to : ℕ) (xs ys : List Row) →
    rows_between from to (xs ++ ys) ≡ rows_between from to xs ++ rows_between (from - length xs) (to - length xs) ys
between_append from to xs ys =
    let size : to - from - length (drop from xs) ≡ to - length xs - (from - length xs) = omega (arith, length-drop from xs) in
    ap (take (to - from)) (drop_append from xs ys) ∙ take_append (to - from) (drop from xs) (drop (from - length xs) ys)
    ∙ ap (λ (n : ℕ). take (to - from) (drop from xs) ++ take n (drop (from - length xs) ys)) size

pub parts_join : (from to : ℕ) (batches : List BatchAt) →
    flat_map (λ (rows : List Row). rows) (parts from to batches) ≡ rows_between from to (flat_map rows_of batches)
parts_join from to [] = sym (none_behind from to [] (omega arith))
parts_join from to (batch ∷ batches) =
    ap (λ (rest : List Row). rows_between from to (rows_of batch) ++ rest) (parts_join (from - batch.rows) (to - batch.rows) batches)
    ∙ ap (λ (n : ℕ). rows_between from to (rows_of batch) ++ rows_between (from - n) (to - n) (flat_map rows_of batches)) (sym (length-rows_of batch))
    ∙ sym (between_append from to (rows_of batch) (flat_map rows_of batches))

-- a part of each batch
parts_wide : (from to : ℕ) (batches : List BatchAt) → length (parts from to batches) ≡ length batches
parts_wide from to [] = refl
parts_wide from to (batch ∷ batches) = ap suc (parts_wide (from - batch.rows) (to - batch.rows) batches)

-- numbered parts without their numbers
pub parts_numbered : (from to : ℕ) (batches : List BatchAt) →
    map (λ (part : ℕ × List Row). part.1) (numbered_parts from to batches) ≡ parts from to batches
parts_numbered from to batches =
    seconds-zip (range_with_len 0 (length batches)) (parts from to batches)
    (parts_wide from to batches ∙ sym (length-range_with_len 0 (length batches)))
