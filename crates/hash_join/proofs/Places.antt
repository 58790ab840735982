-- The places of rows, batch by batch.
use Rattle.std.proofs.Common.{◌≡◌, ◌≤◌, ◌<◌, ◌+◌, ℕ, suc, List, [], ◌∷◌, ◌++◌, All, length, map, drop, get_or, refl, sym, ap, ◌∙◌, arith, append_assoc, add-one, length-append}
use Rattle.std.specs.List.{range_with_len, flat_map, zip}
use Rattle.std.proofs.Math.Seq.{drop-cons}
use Rattle.std.proofs.lemmas.List.Elements.{All-append}
use Rattle.std.proofs.lemmas.List.FromFn.{get_or-map-range_with_len, length-map-range_with_len}
use Rattle.arrays.specs.Batch.{BatchAt}
use Rattle.hash_join.specs.Pairs.{places}

-- the places of the rows of a batch of this number, and of the batches after it
abbrev pub places_from : ℕ → List BatchAt → List (ℕ × ℕ)
places_from number [] = []
places_from number (batch ∷ batches) =
    map (λ row. (number, row)) (range_with_len 0 batch.rows) ++ places_from (number + 1) batches

-- the place is that of a row
pub record IsPlace (batches : List BatchAt) (place : ℕ × ℕ) : Type 0 where
  pub batch : place.0 < length batches
  pub row : place.1 < (get_or batches place.0 (record { columns = []; rows = 0 })).rows

-- the place of a row in a batch
abbrev pub in_batch : ℕ → ℕ → ℕ × ℕ
in_batch number row = (number, row)

-- the places of one batch
abbrev pub places_in : ℕ → ℕ → List (ℕ × ℕ)
places_in number rows = map (in_batch number) (range_with_len 0 rows)

from_number : (number : ℕ) (batches : List BatchAt) →
    flat_map (λ (p : ℕ × BatchAt). places_in p.0 p.1.rows) (zip (range_with_len number (length batches)) batches) ≡ places_from number batches
from_number number [] = refl
from_number number (batch ∷ batches) = ap (λ rest. places_in number batch.rows ++ rest) (from_number (number + 1) batches)

-- the places, batch by batch
pub places_is : (batches : List BatchAt) → places batches ≡ places_from 0 batches
places_is batches = from_number 0 batches

-- a fact of each place
each_place : (P : ℕ × ℕ → Type 0) (number : ℕ) (batches : List BatchAt) →
    ((i row : ℕ) → i < length batches → row < (get_or batches i (record { columns = []; rows = 0 })).rows → P (number + i, row)) →
    All P (places_from number batches)
each_place P number [] each = λ k d h. absurd (omega arith)
each_place P number (batch ∷ batches) each =
    All-append P (places_in number batch.rows) (places_from (number + 1) batches)
    (λ k d h.
    let within : k < batch.rows = omega (arith, h, length-map-range_with_len (in_batch number) 0 batch.rows) in
    let same : number + 0 ≡ number = omega arith in
    rw (get_or-map-range_with_len (in_batch number) 0 batch.rows k k d within (omega arith))
    (rw same at (each 0 k (omega arith) within)))
    (each_place P (number + 1) batches (λ i row h g.
    let same : number + 1 + i ≡ number + suc i = omega arith in
    rw same (each (suc i) row (omega arith) g)))

-- each of the places is one
pub place_there : (batches : List BatchAt) (k : ℕ) → k < length (places batches) → IsPlace batches (get_or (places batches) k (0, 0))
place_there batches k h =
    let all : All (IsPlace batches) (places_from 0 batches) = each_place (IsPlace batches) 0 batches
    (λ i row h g. let same : 0 + i ≡ i = omega arith in rw same (record { batch = h; row = g })) in
    (rw (← places_is batches) at all) k (0, 0) h

-- the next batch
pub next_batch : (batches : List BatchAt) (number : ℕ) (batch : BatchAt) → number < length batches → batch ≡ get_or batches number batch →
    places_from number (drop number batches) ≡ places_in number batch.rows ++ places_from (number + 1) (drop (number + 1) batches)
next_batch batches number batch h is =
    ap (places_from number) (drop-cons batches number batch h)
    ∙ ap (λ (b : BatchAt). places_in number b.rows ++ places_from (number + 1) (drop (suc number) batches)) (sym is)
    ∙ ap (λ n. places_in number batch.rows ++ places_from (number + 1) (drop n batches)) (sym (add-one number))

-- a batch has no more rows than all of them together
pub rows_few : (batches : List BatchAt) (number : ℕ) (batch : BatchAt) (made whole : List (ℕ × ℕ)) → number < length batches →
    batch ≡ get_or batches number batch → made ++ places_from number (drop number batches) ≡ whole → batch.rows ≤ length whole
rows_few batches number batch made whole h is e =
    let rest = places_from (number + 1) (drop (number + 1) batches) in
    let all : made ++ (places_in number batch.rows ++ rest) ≡ whole = ap (λ after. made ++ after) (sym (next_batch batches number batch h is)) ∙ e in
    omega (
      arith,
      ap length all,
      length-append made (places_in number batch.rows ++ rest),
      length-append (places_in number batch.rows) rest,
      length-map-range_with_len (in_batch number) 0 batch.rows,
    )

-- one batch more
pub more_places : (batches : List BatchAt) (number : ℕ) (batch : BatchAt) (made whole : List (ℕ × ℕ)) → number < length batches →
    batch ≡ get_or batches number batch → made ++ places_from number (drop number batches) ≡ whole →
    (made ++ places_in number batch.rows) ++ places_from (number + 1) (drop (number + 1) batches) ≡ whole
more_places batches number batch made whole h is e =
    append_assoc made (places_in number batch.rows) (places_from (number + 1) (drop (number + 1) batches))
    ∙ ap (λ after. made ++ after) (sym (next_batch batches number batch h is)) ∙ e
