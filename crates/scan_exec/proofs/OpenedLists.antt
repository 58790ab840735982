-- The lists of places, one by one.
use Rattle.std.proofs.Common.{◌≡◌, ◌≤◌, ◌<◌, ℕ, zero, suc, ◌+◌, List, [], ◌∷◌, ◌++◌, length, map, drop, get_or, sym, ap, ◌∙◌, arith, append_assoc, append-nil}
use Rattle.std.proofs.lemmas.List.{drop_all, length-map}
use Rattle.batch_skipping.specs.declared.opened_batches.OpenedList.{OpenedList}
use Rattle.batch_skipping.specs.OpenedBatches.{numbered_batches}

abbrev pub numbers_of : List OpenedList → List (List ℕ)
numbers_of lists = map (λ (list : OpenedList). list.numbers.items) lists

-- what stands from a place on
drop_at : (lists : List OpenedList) (i : ℕ) (list : OpenedList) → i < length lists → list ≡ get_or lists i list →
    drop i (numbers_of lists) ≡ list.numbers.items ∷ drop (i + 1) (numbers_of lists)
drop_at [] i list h is = absurd (omega (arith, h))
drop_at (first ∷ lists) zero list h is = ap (λ (one : OpenedList). one.numbers.items ∷ numbers_of lists) (sym is)
drop_at (first ∷ lists) (suc i) list h is =
    let e : suc (i + 1) ≡ suc i + 1 = omega arith in
    drop_at lists i list (omega (arith, h)) is ∙ ap (λ (n : ℕ). list.numbers.items ∷ drop n (numbers_of (first ∷ lists))) e

-- one place more
pub place_more : (lists : List OpenedList) (place : ℕ) (list : OpenedList) (done all : List (ℕ × ℕ)) → place < length lists → list ≡ get_or lists place list →
    done ++ numbered_batches place (drop place (numbers_of lists)) ≡ all →
    (done ++ map (λ number. (place, number)) list.numbers.items) ++ numbered_batches (place + 1) (drop (place + 1) (numbers_of lists)) ≡ all
place_more lists place list done all h is so_far =
    append_assoc done (map (λ number. (place, number)) list.numbers.items) (numbered_batches (place + 1) (drop (place + 1) (numbers_of lists)))
    ∙ ap (λ (rest : List (List ℕ)). done ++ numbered_batches place rest) (sym (drop_at lists place list h is)) ∙ so_far

-- after the last one
pub places_all : (lists : List OpenedList) (place : ℕ) (done all : List (ℕ × ℕ)) → length lists ≤ place →
    done ++ numbered_batches place (drop place (numbers_of lists)) ≡ all → done ≡ all
places_all lists place done all h so_far =
    sym (append-nil done)
    ∙ ap (λ (rest : List (List ℕ)). done ++ numbered_batches place rest) (sym (drop_all place (numbers_of lists) (omega (arith, h, length-map lists (λ (list : OpenedList). list.numbers.items)))))
    ∙ so_far
