-- The batches of a scan's list, by the numbers of its morsels.
use Rattle.std.proofs.Common.{◌≡◌, ◌<◌, ℕ, zero, suc, ◌+◌, ◌-◌, ◌==◌, true, List, [], ◌∷◌, length, drop, get_or, refl, ap, ◌∙◌, arith, length-drop}
use Rattle.std.specs.List.{list_all}
use Rattle.std.proofs.lemmas.Bool.{and_parts, eqb-true}
use Rattle.std.proofs.lemmas.List.FromFn.{length-range_with_len}
use Rattle.scan_exec.specs.Answering.{IsScan, table_number}
use Rattle.scan_exec.specs.Giving.{of_rows}
use Rattle.scan_exec.specs.Morsels.{of_first}
use Rattle.row_sources.specs.Running.{RowsAt}

get_any : (xs : List (ℕ × ℕ)) (i : ℕ) (d e : ℕ × ℕ) → i < length xs → get_or xs i d ≡ get_or xs i e
get_any [] i d e h = absurd (omega (arith, h))
get_any (x ∷ xs) zero d e h = refl
get_any (x ∷ xs) (suc i) d e h = get_any xs i d e (omega (arith, h))

get_drop : (xs : List (ℕ × ℕ)) (k i : ℕ) (d : ℕ × ℕ) → k + i < length xs → get_or xs (k + i) d ≡ get_or (drop k xs) i d
get_drop [] k i d h = absurd (omega (arith, h))
get_drop (x ∷ xs) zero i d h =
    let e : zero + i ≡ i = omega arith in
    ap (λ (n : ℕ). get_or (x ∷ xs) n d) e
get_drop (x ∷ xs) (suc k) i d h =
    let e : suc k + i ≡ suc (k + i) = omega arith in
    ap (λ (n : ℕ). get_or (x ∷ xs) n d) e ∙ get_drop xs k i d (omega (arith, h))

first_pair : (firsts : List (ℕ × ℕ)) (i : ℕ) → i < length firsts → list_all (λ (batch : ℕ × ℕ). batch.0 == 0) firsts ≡ true →
    get_or firsts i (0, 0) ≡ (0, table_number firsts i)
first_pair [] i h all = absurd (omega (arith, h))
first_pair (batch ∷ firsts) zero h all =
    let zero_is = eqb-true batch.0 0 (and_parts (batch.0 == 0) (list_all (λ (b : ℕ × ℕ). b.0 == 0) firsts) all).0 in
    ap (λ (place : ℕ). (place, batch.1)) zero_is
first_pair (batch ∷ firsts) (suc i) h all =
    first_pair firsts i (omega (arith, h)) (and_parts (batch.0 == 0) (list_all (λ (b : ℕ × ℕ). b.0 == 0) firsts) all).1

module _ (rows : RowsAt) (batches : List (ℕ × ℕ)) (further given : ℕ) (is : IsScan (of_rows rows) batches further given) (number : ℕ) (listed : number < length (of_first batches)) where
  pub first_there : number < length (drop further batches)
  first_there = omega (arith, listed, ap length is.others)

  pub batch_there : number < length rows.batches
  batch_there = omega (arith, first_there, length-drop further batches, ap length is.first, length-range_with_len 0 (length batches - further))

  pub pair_is : (pair : ℕ × ℕ) → pair ≡ get_or batches (further + number) pair → pair ≡ (0, table_number (drop further batches) number)
  pair_is pair e =
      let within : further + number < length batches = omega (arith, first_there, length-drop further batches) in
      e ∙ get_any batches (further + number) pair (0, 0) within ∙ get_drop batches further number (0, 0) within ∙ first_pair (drop further batches) number first_there is.places
