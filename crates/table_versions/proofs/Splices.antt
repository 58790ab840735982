-- A list with one item in the place of some.
use Rattle.std.proofs.Common.{◌≡◌, ℕ, ◌-◌, List, [], ◌∷◌, ◌++◌, length, map, take, drop, refl, append_assoc, arith}
use Rattle.std.proofs.lemmas.Grind.{common_steps}
use Rattle.std.proofs.lemmas.List.{take-map, drop-map, map-append}

-- the end of a list, cut at its length
pub rest : {X : Type 0} (xs : List X) (to : ℕ) → take (length xs - to) (drop to xs) ≡ drop to xs
rest xs to = grind (arith, common_steps)

pub spliced_of : {A X : Type 0} (view : A → X) (old front pushed all : List A) (new : A) (from to : ℕ) →
    map view all ≡ map view pushed ++ map view (take (length old - to) (drop to old)) → pushed ≡ front ++ new ∷ [] →
    map view front ≡ map view (take from old) →
    map view all ≡ take from (map view old) ++ view new ∷ drop to (map view old)
spliced_of view old front pushed all new from to e p f =
    rw (
      e,
      p,
      map-append view front (new ∷ []),
      f,
      rest old to,
      take-map view from old,
      drop-map view to old,
      append_assoc (map view (take from old)) (view new ∷ []) (map view (drop to old)),
    ) refl
