-- One column more.
use Rattle.std.proofs.Common.{◌≡◌, ◌<◌, ◌+◌, ℕ, List, [], ◌∷◌, ◌++◌, length, get_or, ap, ◌∙◌, arith, below_more}
use Rattle.std.proofs.lemmas.List.{get_or_append_left, get_or_push}

-- each item has its text, and one more has its own
pub texts_more : {X : Type 0} (text : X → List ℕ) (xs : List X) (y : X) (texts : List (List ℕ)) (n : ℕ)
    → length xs ≡ n → text y ≡ get_or texts n [] → ((k : ℕ) (d : X) → k < n → text (get_or xs k d) ≡ get_or texts k [])
    → (k : ℕ) (d : X) → k < n + 1 → text (get_or (xs ++ y ∷ []) k d) ≡ get_or texts k []
texts_more text xs y texts n long same each =
    λ k d. below_more (λ (j : ℕ). text (get_or (xs ++ y ∷ []) j d) ≡ get_or texts j []) n
    (λ (j : ℕ) (low : j < n).
    let inside : j < length xs = omega arith in
    rw get_or_append_left (each j d low))
    (ap text (get_or_push xs y d n long) ∙ same)
    k
