-- Inside: what the workers have drawn from the claim word.
use Rattle.std.specs.Prelude.{◌≡◌, ℕ, ◌+◌, ◌<◌, ◌==◌, Bool, true, false, List, [], ◌∷◌, ◌++◌}
use Rattle.std.specs.Prelude.{length}
use lib.Dec.{ltb}
use Rattle.atomic_table.specs.Table.{State, Me, Step}

-- 1 for true, 0 for false
abbrev pub one_where : Bool → ℕ
one_where true = 1
one_where false = 0

-- how often a number stands in a list
abbrev pub times : ℕ → List ℕ → ℕ
times n [] = 0
times n (m ∷ ms) = one_where (m == n) + times n ms

-- a number of each list, added up
abbrev pub list_total : (List ℕ → ℕ) → List (List ℕ) → ℕ
list_total f [] = 0
list_total f (ms ∷ lists) = f ms + list_total f lists

-- where fewer than 2^64 numbers were drawn, the word tells how many, and the lists together hold
-- each number below it once
pub record IsClaimed (s : State (Unit {0}) (List ℕ)) : Type 0 where
  pub word : ℕ
  pub words : s.words ≡ word ∷ []
  pub drawn : list_total length s.views < 18446744073709551616 → (word ≡ list_total length s.views)
      × ((n : ℕ) → list_total (times n) s.views ≡ one_where (ltb n word))

-- the number that the word had is drawn
abbrev pub DrewMorsel : Step (Unit {0}) → Me (Unit {0}) (List ℕ) → ℕ → Me (Unit {0}) (List ℕ) →
    Type 0
DrewMorsel st me n new = new ≡ (me.0 ++ n ∷ [], me.1)
