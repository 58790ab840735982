-- Lists whose items have places.
use Rattle.std.proofs.Common.{◌≡◌, ℕ, ◌+◌, ◌<◌, List, [], ◌∷◌, ◌++◌, length, refl, ap, ◌∙◌, arith}
use Rattle.std.specs.List.{enumerate_from}

pub numbered-append : {X : Type 0} (place : ℕ) (xs more : List X)
    → enumerate_from place (xs ++ more) ≡ enumerate_from place xs ++ enumerate_from (place + length xs) more
numbered-append place [] more = let at : place ≡ place + 0 = omega arith in ap (λ n. enumerate_from n more) at
numbered-append place (x ∷ xs) more =
    let at : place + 1 + length xs ≡ place + length (x ∷ xs) = omega arith in
    ap (λ all. (place, x) ∷ all) (numbered-append (place + 1) xs more ∙ ap (λ n. enumerate_from (place + 1) xs ++ enumerate_from n more) at)
