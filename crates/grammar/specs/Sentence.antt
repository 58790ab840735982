-- The beginnings of sentences, and the token that offends.
use Rattle.std.specs.Prelude.{◌≡◌, List, [], ◌∷◌, ◌++◌}
use Rattle.grammar.specs.Rule.{Language}

-- the tokens begin a sentence
abbrev pub Begins : {T A : Type 0} → Language T A → List T → Type 0
Begins {T} {A} L front = (more : List T) × (v : A) × L (front ++ more) v

-- no sentence begins with the front and the first token of the place; where no token is left, the
-- front is no sentence
abbrev pub NoneGoesOn : {T A : Type 0} → Language T A → List T → List T → Type 0
NoneGoesOn {T} {A} L front [] = (v : A) → L front v → ⊥
NoneGoesOn {T} {A} L front (t ∷ ts) = (more : List T) (v : A) → L (front ++ t ∷ more) v → ⊥

-- The first token of the place offends: the tokens before it begin a sentence within the limit, and
-- with it they begin none at all.
pub record Offends {T A : Type 0} (Limited Whole : Language T A) (ts place : List T) : Type 0 where
  pub front : List T
  pub splits : ts ≡ front ++ place
  pub begins : Begins Limited front
  pub ends : NoneGoesOn Whole front place
