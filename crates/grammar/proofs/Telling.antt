-- What reading tokens to their end tells.
use Rattle.std.specs.Prelude.{◌≡◌, List, ◌++◌}
use Rattle.grammar.specs.Rule.{Language}
use Rattle.grammar.specs.Reading.{Outcome, Read, Stuck, Over}
use Rattle.grammar.specs.Sentence.{Begins, Offends}

-- The tokens of the front pass the limit: they begin a sentence, and none within the limit.
pub record Exceeds {T A : Type 0} (Limited Whole : Language T A) (ts : List T) : Type 0 where
  pub front : List T
  pub rest : List T
  pub splits : ts ≡ front ++ rest
  pub begins : Begins Whole front
  pub passes : Begins Limited front → ⊥

-- what reading has to tell
abbrev pub Tells : {T A : Type 0} → Language T A → Language T A → List T → Outcome T A → Type 0
Tells {T} {A} Limited Whole ts (Read v rest) = Limited ts v × ((w : A) → Whole ts w → w ≡ v)
Tells Limited Whole ts (Stuck place) = Offends Limited Whole ts place
Tells Limited Whole ts Over = Exceeds Limited Whole ts
