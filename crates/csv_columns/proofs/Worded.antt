-- A column's text, cut at its last colon and before its mark.
use Rattle.std.proofs.Common.{◌≡◌, ◌<◌, ◌+◌, ℕ, List, ◌∷◌, ◌++◌, length, take, drop, slice_index, sym, ap, ◌∙◌, ◌-◌, append_assoc, length-drop, arith}
use Rattle.std.proofs.lemmas.List.{at_drop_more, take_all, take-append-drop}

-- what stands before a place, the byte there, and what stands after it
cut_at : (front : List ℕ) (at byte : ℕ) → at < length front → slice_index front at ≡ byte → front ≡ take at front ++ byte ∷ drop (at + 1) front
cut_at front at byte low is =
    let rest : drop at front ≡ byte ∷ drop (at + 1) front = at_drop_more (λ (l : List ℕ). l) front at 0 low ∙ ap (λ (x : ℕ). x ∷ drop (at + 1) front) is in
    sym (take-append-drop at front) ∙ ap (λ (xs : List ℕ). take at front ++ xs) rest

pub joined : (text front mark : List ℕ) (at : ℕ) → at < length front → slice_index front at ≡ 58 → text ≡ front ++ mark
    → take at front ++ 58 ∷ (take (length front - (at + 1)) (drop (at + 1) front) ++ mark) ≡ text
joined text front mark at low is whole =
    let all : take (length front - (at + 1)) (drop (at + 1) front) ≡ drop (at + 1) front = take_all _ _ (omega (arith, length-drop (at + 1) front)) in
    ap (λ (xs : List ℕ). take at front ++ 58 ∷ (xs ++ mark)) all ∙ sym (append_assoc (take at front) (58 ∷ drop (at + 1) front) mark) ∙ ap (λ (xs : List ℕ). xs ++ mark) (sym (cut_at front at 58 low is)) ∙ sym whole
