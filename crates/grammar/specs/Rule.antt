-- Grammars whose productions carry the values that they spell. A token is a kind and what it
-- carries. One nonterminal goes through itself.
use Rattle.std.specs.Prelude.{◌≡◌, ℕ, zero, suc, Bool, true, ◌⊎◌, List, [], ◌∷◌, ◌++◌, Option, Some}

-- K are the kinds, V what tokens carry, and P is what the recursive nonterminal spells
pub data Rule (K V P : Type 0) : Type 0 → Type 1 where
  -- one token of such a kind, of which the function makes a value; and such a token
  one : {A : Type 0} → (K → Bool) → (K × V → Option A) → K × V → Rule K V P A
  empty : {A : Type 0} → A → Rule K V P A
  both : {A B : Type 0} → Rule K V P A → Rule K V P B → Rule K V P (A × B)
  either : {A : Type 0} → Rule K V P A → Rule K V P A → Rule K V P A
  many : {A : Type 0} → Rule K V P A → Rule K V P (List A)
  make : {A B : Type 0} → (A → B) → Rule K V P A → Rule K V P B
  -- an opener, which is a token of such a kind (and such a token), and the rule within it; or else
  -- the second rule
  opened : {A : Type 0} → (K → Bool) → K × V → Rule K V P A → Rule K V P A → Rule K V P A
  -- the recursive nonterminal, and the kinds that its sentences begin with
  again : (K → Bool) → Rule K V P P

-- which tokens say which value
abbrev pub Language : Type 0 → Type 0 → Type 1
Language T A = List T → A → Type 0

-- sentences of L one after another
abbrev pub Repeats : {T A : Type 0} → Language T A → List T → List A → Type 0
Repeats L ts [] = ts ≡ []
Repeats {T} L ts (v ∷ vs) = (l : List T) × (r : List T) × (ts ≡ l ++ r) × L l v × Repeats L r vs

-- Spells D g ts v: the tokens are a sentence of the rule, which spells v, where D are those of the
-- recursive nonterminal.
abbrev pub Spells : {K V P A : Type 0} → Language (K × V) P → Rule K V P A →
    List (K × V) → A → Type 0
Spells {K} {V} D (one p f s) ts v = (t : K × V) × (ts ≡ t ∷ []) × (p t.0 ≡ true) × (f t ≡ Some v)
Spells D (empty x) ts v = (ts ≡ []) × (v ≡ x)
Spells {K} {V} D (both g h) ts v =
    (l : List (K × V)) × (r : List (K × V)) × (ts ≡ l ++ r) × Spells D g l v.0 × Spells D h r v.1
Spells D (either g h) ts v = Spells D g ts v ⊎ Spells D h ts v
Spells D (many g) ts v = Repeats (Spells D g) ts v
Spells D (make {A = A} f g) ts v = (x : A) × (v ≡ f x) × Spells D g ts x
Spells {K} {V} D (opened p s g h) ts v =
    ((t : K × V) × (r : List (K × V)) × (ts ≡ t ∷ r) × (p t.0 ≡ true) × Spells D g r v)
    ⊎ Spells D h ts v
Spells D (again first) ts v = D ts v

-- no tokens say any
abbrev pub Nowhere : {T A : Type 0} → Language T A
Nowhere ts v = ⊥

-- sentences of the recursive nonterminal in which at most d openers are open at once
abbrev pub Nested : {K V P : Type 0} → Rule K V P P → ℕ → Language (K × V) P
Nested g zero = Spells Nowhere g
Nested g (suc d) = Spells (Nested g d) g

-- sentences of the recursive nonterminal, however many openers are open at once
abbrev pub Any : {K V P : Type 0} → Rule K V P P → Language (K × V) P
Any g ts v = (d : ℕ) × Nested g d ts v
