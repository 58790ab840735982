-- Parts of a batch's rows, put together.
use Rattle.std.proofs.Common.{◌≡◌, ◌≤◌, ℕ, zero, suc, ◌+◌, ◌-◌, List, [], ◌∷◌, ◌++◌, length, take, drop, refl, sym, ap, ◌∙◌, arith}
use Rattle.std.proofs.Math.Seq.{take-add}
use Rattle.std.proofs.lemmas.List.{take_all}
use Rattle.arrays.specs.Batch.{BatchAt, BatchSlicesKeepRows, rows_of, cut_batch}
use Rattle.table_versions.proofs.Rowing.{length-rows_of}

drop_none : {X : Type 0} (n : ℕ) → drop {A = X} n [] ≡ []
drop_none zero = refl
drop_none (suc n) = refl

drop_more : {X : Type 0} (a n : ℕ) (xs : List X) → drop n (drop a xs) ≡ drop (a + n) xs
drop_more zero n xs = let e : 0 + n ≡ n = omega arith in rw e refl
drop_more (suc a) n [] = drop_none n ∙ sym (drop_none (suc a + n))
drop_more (suc a) n (x ∷ xs) = let e : suc a + n ≡ suc (a + n) = omega arith in rw e (drop_more a n xs)

-- items a up to b, and then b up to c
pub parts_join : {X : Type 0} (a b c : ℕ) (xs : List X) → a ≤ b → b ≤ c → take (b - a) (drop a xs) ++ take (c - b) (drop b xs) ≡ take (c - a) (drop a xs)
parts_join a b c xs low high =
    let there : a + (b - a) ≡ b = omega arith in
    let long : (b - a) + (c - b) ≡ c - a = omega arith in
    sym (ap (λ n. take n (drop a xs)) (sym long) ∙ take-add (b - a) (c - b) (drop a xs)
    ∙ ap (λ rest. take (b - a) (drop a xs) ++ take (c - b) rest) (drop_more a (b - a) xs ∙ ap (λ n. drop n xs) there))

-- rows of a batch, and those after them
pub cuts_join : BatchSlicesKeepRows → (batch : BatchAt) (from at to : ℕ) → from ≤ at → at ≤ to → to ≤ batch.rows
    → rows_of (cut_batch batch from at) ++ rows_of (cut_batch batch at to) ≡ rows_of (cut_batch batch from to)
cuts_join keep batch from at to low high within =
    rw (keep batch from at low (omega (arith, high, within)), keep batch at to high within, keep batch from to (omega (arith, low, high)) within)
    (parts_join from at to (rows_of batch) low high)

-- how many rows a slice has
pub length_cut : (batch : BatchAt) (from to : ℕ) → length (rows_of (cut_batch batch from to)) ≡ to - from
length_cut batch from to = length-rows_of (cut_batch batch from to)

-- nothing of a batch
pub slice_none : BatchSlicesKeepRows → (batch : BatchAt) (from : ℕ) → from ≤ batch.rows → rows_of (cut_batch batch from from) ≡ []
slice_none keep batch from within =
    let none : from - from ≡ 0 = omega arith in
    keep batch from from (omega arith) within ∙ rw none refl

-- the whole of a batch
pub slice_whole : BatchSlicesKeepRows → (batch : BatchAt) (rows : ℕ) → rows ≡ batch.rows → rows_of (cut_batch batch 0 rows) ≡ rows_of batch
slice_whole keep batch rows e =
    let long : length (rows_of batch) ≤ rows - 0 = omega (arith, length-rows_of batch, e) in
    keep batch 0 rows (omega arith) (omega (arith, e)) ∙ take_all (rows - 0) (rows_of batch) long
