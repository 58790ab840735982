-- A list that several made, one item at a time.
use Rattle.std.specs.Prelude.{◌≡◌, ◌⊎◌, List, [], ◌∷◌}

-- the items of one and of another, those of each in their order, are this list
abbrev pub Merges : {X : Type 0} → List X → List X → List X → Type 0
Merges {X} one other [] = (one ≡ []) × (other ≡ [])
Merges {X} one other (x ∷ all) =
    ((rest : List X) × (one ≡ x ∷ rest) × Merges rest other all)
    ⊎ ((rest : List X) × (other ≡ x ∷ rest) × Merges one rest all)

-- the items of all of these, those of each in their order, are this list
abbrev pub MergesAll : {X : Type 0} → List (List X) → List X → Type 0
MergesAll {X} [] all = all ≡ []
MergesAll {X} (one ∷ others) all = (rest : List X) × Merges one rest all × MergesAll others rest
