-- Inside: the rule of the word, and what its steps tell.
use Rattle.std.specs.Prelude.{◌≡◌, ℕ, ◌+◌, ◌<◌, ◌==◌, Bool, true, false, List, [], ◌∷◌}
use mathlib.Core.Option.{some}
use lib.ListN.{get_elem?}
use Rattle.atomic_table.specs.Table.{State, Me, Step}
use Rattle.connection_turns.specs.declared.rule.DrawerTally.{DrawerTally}
use Rattle.connection_turns.specs.declared.rule.Key.{Key}

-- what a drawer knows
abbrev pub drawer_tally : ℕ → ℕ → ℕ → DrawerTally
drawer_tally parts drawn ended = record { parts = parts; drawn = drawn; ended = ended }

-- 1 for true, 0 for false
abbrev pub one_if : Bool → ℕ
one_if true = 1
one_if false = 0

-- a number of each view, added up
abbrev pub total_of : (DrawerTally → ℕ) → List DrawerTally → ℕ
total_of f [] = 0
total_of f (v ∷ vs) = f v + total_of f vs

-- with no part nothing was drawn, and no end was told
pub record Idle (v : DrawerTally) : Type 0 where
  pub drawn : v.drawn ≡ 0
  pub ended : v.ended ≡ 0

-- so is each view that has no part
abbrev pub IdleIsEmpty : List DrawerTally → Type 0
IdleIsEmpty views = (seat : ℕ) (v : DrawerTally) → get_elem? views seat ≡ some v → v.parts ≡ 0 →
    Idle v

-- what is left and what was drawn are what there was, and nothing is left once an end was told
pub record IsKept (key : Key) (s : State (Unit {0}) DrawerTally) : Type 0 where
  pub left : ℕ
  pub words : s.words ≡ left ∷ []
  pub parts : total_of (λ v. v.parts) s.views ≡ key.drawers + 1
  pub drawn : left + total_of (λ v. v.drawn) s.views ≡ key.most
  pub ended : 0 < total_of (λ v. v.ended) s.views → left ≡ 0
  pub idle : IdleIsEmpty s.views

-- 0 is found, which is an end, or another number
abbrev pub Looked : Step (Unit {0}) → Me (Unit {0}) DrawerTally → ℕ → Me (Unit {0}) DrawerTally →
    Type 0
Looked st m n m' = m' ≡ (drawer_tally m.0.parts m.0.drawn (m.0.ended + one_if (n == 0)), m.1)

-- the number that was expected is found, and a turn is drawn, or another number
abbrev pub Drew : Step (Unit {0}) → Me (Unit {0}) DrawerTally → ℕ → Me (Unit {0}) DrawerTally →
    Type 0
Drew st m n m' = m' ≡ (drawer_tally m.0.parts (m.0.drawn + one_if (n == st.first)) m.0.ended, m.1)

-- what is found is what the expected number of turns leaves, and 0 once an end was told
abbrev pub Learnt : Step (Unit {0}) → Me (Unit {0}) DrawerTally → ℕ → Me (Unit {0}) DrawerTally →
    Type 0
Learnt st m n m' = (m' ≡ m) × (n + m.0.drawn ≡ st.first) × (0 < m.0.ended → n ≡ 0)
