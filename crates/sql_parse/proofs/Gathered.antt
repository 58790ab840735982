-- What the tokens of sentences gather, by what the sentences say.
use Rattle.std.proofs.Common.{◌≡◌, ℕ, zero, suc, Bool, true, false, ◌&&◌, ◌||◌, not, ◌⊎◌, inl, inr, List, [], ◌∷◌}
use Rattle.std.proofs.Common.{◌++◌, Option, Some, refl, sym, ◌∙◌, ap, subst, flat_map, append-nil, append_assoc}
use Rattle.std.proofs.lemmas.List.Concat.{flat_map-append}
use Rattle.grammar.specs.Rule.{Rule, one, empty, both, either, many, make, opened, again, Language, Repeats, Spells}
use Rattle.grammar.specs.Rule.{Nowhere, Nested, Any}
use Rattle.grammar.specs.Reading.{nullable}
use Rattle.grammar.proofs.Determined.{disjoint}
use Rattle.grammar.proofs.Flags.{and-left, and-right}
use Rattle.grammar.proofs.Laws.{Solid}
use Rattle.grammar.proofs.Rules.{Disjoins, nulls, solid_of}
use Rattle.sql_parse.proofs.Everywhere.{follows_by}

-- what the tokens of each sentence of L gather is what its value says
abbrev pub Gathers : {T E A : Type 0} → (T → List E) → Language T A → (A → List E) → Type 0
Gathers {T} {E} {A} e L said = (ts : List T) (v : A) → L ts v → flat_map e ts ≡ said v

joined_up : {T E : Type 0} (e : T → List E) (ts l r : List T) (a b : List E) → ts ≡ l ++ r → flat_map e l ≡ a →
    flat_map e r ≡ b → flat_map e ts ≡ a ++ b
joined_up e ts l r a b h i j = ap (flat_map e) h ∙ (flat_map-append e l r ∙ rw (i, j) refl)

module _ {K V P E : Type 0} (e : K × V → List E) (D : Language (K × V) P) where
  pub gathers_one : {A : Type 0} (p : K → Bool) (f : K × V → Option A) (s : K × V) (said : A → List E) →
      ((t : K × V) (v : A) → p t.0 ≡ true → f t ≡ Some v → e t ≡ said v) → Gathers e (Spells D (one p f s)) said
  gathers_one p f s said by ts v q =
      ap (flat_map e) q.1 ∙ (append-nil (e q.0) ∙ by q.0 v q.2 q.3)

  pub gathers_empty : {A : Type 0} (x : A) (said : A → List E) → said x ≡ [] → Gathers e (Spells D (empty x)) said
  gathers_empty x said h ts v q = ap (flat_map e) q.0 ∙ sym (ap said q.1 ∙ h)

  pub gathers_both : {A B : Type 0} (g : Rule K V P A) (h : Rule K V P B) (said : A → List E) (more : B → List E) →
      Gathers e (Spells D g) said → Gathers e (Spells D h) more →
      Gathers e (Spells D (both g h)) (λ v. said v.0 ++ more v.1)
  gathers_both g h said more first second ts v q =
      joined_up e ts q.0 q.1 (said v.0) (more v.1) q.2 (first q.0 v.0 q.3) (second q.1 v.1 q.4)

  pub gathers_either : {A : Type 0} (g h : Rule K V P A) (said : A → List E) →
      Gathers e (Spells D g) said → Gathers e (Spells D h) said → Gathers e (Spells D (either g h)) said
  gathers_either g h said first second ts v (inl q) = first ts v q
  gathers_either g h said first second ts v (inr q) = second ts v q

  pub gathers_many : {A : Type 0} (g : Rule K V P A) (said : A → List E) →
      Gathers e (Spells D g) said → Gathers e (Spells D (many g)) (flat_map said)
  gathers_many g said each ts [] q = ap (flat_map e) q
  gathers_many g said each ts (v ∷ vs) q =
      joined_up e ts q.0 q.1 (said v) (flat_map said vs) q.2 (each q.0 v q.3) (gathers_many g said each q.1 vs q.4)

  pub gathers_make : {A B : Type 0} (f : A → B) (g : Rule K V P A) (said : A → List E) (told : B → List E) →
      Gathers e (Spells D g) said → ((x : A) → said x ≡ told (f x)) → Gathers e (Spells D (make f g)) told
  gathers_make f g said told first by ts v q = first ts q.0 q.2 ∙ (by q.0 ∙ sym (ap told q.1))

  pub gathers_opened : {A : Type 0} (p : K → Bool) (s : K × V) (g h : Rule K V P A) (said : A → List E) →
      ((t : K × V) → p t.0 ≡ true → e t ≡ []) → Gathers e (Spells D g) said → Gathers e (Spells D h) said →
      Gathers e (Spells D (opened p s g h)) said
  gathers_opened p s g h said none within other ts v (inl q) =
      ap (flat_map e) q.2 ∙ (ap (λ (z : List E). z ++ flat_map e q.1) (none q.0 q.3) ∙ within q.1 v q.4)
  gathers_opened p s g h said none within other ts v (inr q) = other ts v q

-- the recursive nonterminal, at any depth
module _ {K V P E : Type 0} (e : K × V → List E) (g : Rule K V P P) (said : P → List E)
    (step : (D : Language (K × V) P) → Gathers e D said → Gathers e (Spells D g) said) where
  gathers_nested : (d : ℕ) → Gathers e (Nested g d) said
  gathers_nested zero = step Nowhere (λ ts v q. absurd q)
  gathers_nested (suc d) = step (Nested g d) (gathers_nested d)

  pub gathers_any : Gathers e (Any g) said
  gathers_any ts v q = gathers_nested q.0 ts v q.1

-- ---- rules without tokens of some kinds

-- no token of a sentence is of such a kind, where `deep` says so of the recursive nonterminal
abbrev pub avoids : {K V P A : Type 0} → List K → (K → Bool) → Bool → Rule K V P A → Bool
avoids kinds q deep (one p f s) = disjoint kinds q p
avoids kinds q deep (empty x) = true
avoids kinds q deep (both g h) = avoids kinds q deep g && avoids kinds q deep h
avoids kinds q deep (either g h) = avoids kinds q deep g && avoids kinds q deep h
avoids kinds q deep (many g) = avoids kinds q deep g
avoids kinds q deep (make f g) = avoids kinds q deep g
avoids kinds q deep (opened p s g h) = disjoint kinds q p && (avoids kinds q deep g && avoids kinds q deep h)
avoids kinds q deep (again first) = deep

no_parts : {A E : Type 0} (vs : List A) → flat_map {X = A} {A = E} (λ v. []) vs ≡ []
no_parts [] = refl
no_parts (v ∷ vs) = no_parts vs

module _ {K V P E : Type 0} (e : K × V → List E) (kinds : List K) (apart : Disjoins kinds) (q : K → Bool)
    (none : (t : K × V) → q t.0 ≡ false → e t ≡ []) (deep : Bool) (D : Language (K × V) P)
    (within : deep ≡ true → Gathers e D (λ v. [])) where
  pub gathers_nothing : {A : Type 0} (g : Rule K V P A) → avoids kinds q deep g ≡ true →
      Gathers e (Spells D g) (λ v. [])
  gathers_nothing {A} (one p f s) w = gathers_one e D p f s (λ v. []) (λ t v h i. none t (apart q p w t.0 h))
  gathers_nothing {A} (empty x) w = gathers_empty e D x (λ v. []) refl
  gathers_nothing (both g h) w =
      gathers_both e D g h (λ v. []) (λ v. [])
      (gathers_nothing g (and-left (avoids kinds q deep g) (avoids kinds q deep h) w))
      (gathers_nothing h (and-right (avoids kinds q deep g) (avoids kinds q deep h) w))
  gathers_nothing (either g h) w =
      gathers_either e D g h (λ v. [])
      (gathers_nothing g (and-left (avoids kinds q deep g) (avoids kinds q deep h) w))
      (gathers_nothing h (and-right (avoids kinds q deep g) (avoids kinds q deep h) w))
  gathers_nothing (many g) w =
      λ ts vs s. gathers_many e D g (λ v. []) (gathers_nothing g w) ts vs s ∙ no_parts vs
  gathers_nothing (make f g) w = gathers_make e D f g (λ v. []) (λ v. []) (gathers_nothing g w) (λ x. refl)
  gathers_nothing (opened p s g h) w =
      let both_parts = and-right (disjoint kinds q p) (avoids kinds q deep g && avoids kinds q deep h) w in
      gathers_opened e D p s g h (λ v. [])
      (λ t i. none t (apart q p (and-left (disjoint kinds q p) (avoids kinds q deep g && avoids kinds q deep h) w) t.0 i))
      (gathers_nothing g (and-left (avoids kinds q deep g) (avoids kinds q deep h) both_parts))
      (gathers_nothing h (and-right (avoids kinds q deep g) (avoids kinds q deep h) both_parts))
  gathers_nothing (again first) w = within w

-- ---- the last token

-- each sentence that has tokens ends with one that is of no such kind
abbrev pub ends_apart : {K V P A : Type 0} → List K → (K → Bool) → Rule K V P A → Bool
ends_apart kinds q (one p f s) = disjoint kinds q p
ends_apart kinds q (empty x) = true
ends_apart kinds q (both g h) = ends_apart kinds q h && (not (nullable h) || ends_apart kinds q g)
ends_apart kinds q (either g h) = ends_apart kinds q g && ends_apart kinds q h
ends_apart kinds q (many g) = ends_apart kinds q g
ends_apart kinds q (make f g) = ends_apart kinds q g
ends_apart kinds q (opened p s g h) = (ends_apart kinds q g && not (nullable g)) && ends_apart kinds q h
ends_apart kinds q (again first) = true

pub record Ending {K V : Type 0} (q : K → Bool) (ts : List (K × V)) : Type 0 where
  pub front : List (K × V)
  pub last : K × V
  pub splits : ts ≡ front ++ last ∷ []
  pub other : q last.0 ≡ false

abbrev pub EndsApart : {K V A : Type 0} → (K → Bool) → Language (K × V) A → Type 0
EndsApart {K} {V} {A} q L = (ts : List (K × V)) (v : A) → L ts v → (ts ≡ []) ⊎ Ending q ts

behind_front : {K V : Type 0} (q : K → Bool) (ts l r : List (K × V)) → ts ≡ l ++ r → Ending q r → Ending q ts
behind_front {K} {V} q ts l r e n = record {
  front = l ++ n.front;
  last = n.last;
  splits = e ∙ (ap (λ (z : List (K × V)). l ++ z) n.splits ∙ sym (append_assoc l n.front (n.last ∷ [])));
  other = n.other;
}

module _ {K V P : Type 0} (kinds : List K) (apart : Disjoins kinds) (q : K → Bool) (D : Language (K × V) P)
    (solid : Solid D) (within : EndsApart q D) where
  ends_many : {A : Type 0} (g : Rule K V P A) → EndsApart q (Spells D g) → EndsApart q (Repeats (Spells D g))
  ends_many g each ts [] s = inl s
  ends_many {A} g each ts (v ∷ vs) s = go (ends_many g each s.1 vs s.4) (each s.0 v s.3)
    where
      go : (s.1 ≡ []) ⊎ Ending q s.1 → (s.0 ≡ []) ⊎ Ending q s.0 → (ts ≡ []) ⊎ Ending q ts
      go (inr n) m = inr (behind_front q ts s.0 s.1 s.2 n)
      go (inl e) (inl f) = inl (s.2 ∙ rw (e, f) refl)
      go (inl e) (inr m) =
          inr (subst (Ending q) (sym (s.2 ∙ (ap (λ (z : List (K × V)). s.0 ++ z) e ∙ append-nil s.0))) m)

  pub ends : {A : Type 0} (g : Rule K V P A) → ends_apart kinds q g ≡ true → EndsApart q (Spells D g)
  ends (one p f s) w = λ ts v t. inr (record {
    front = [];
    last = t.0;
    splits = t.1;
    other = apart q p w t.0.0 t.2;
  })
  ends (empty x) w = λ ts v t. inl t.0
  ends (both {A} {B} g h) w = λ ts v t. go ts v t.0 t.1 t.2 t.3 t.4 (ends g)
      (ends h (and-left (ends_apart kinds q h) (not (nullable h) || ends_apart kinds q g) w) t.1 v.1 t.4)
    where
      after : (ts l r : List (K × V)) → ts ≡ l ++ r → r ≡ [] → ts ≡ l
      after ts l r e f = e ∙ (ap (λ (z : List (K × V)). l ++ z) f ∙ append-nil l)

      go : (ts : List (K × V)) (v : A × B) (l r : List (K × V)) → ts ≡ l ++ r → Spells D g l v.0 →
          Spells D h r v.1 → (ends_apart kinds q g ≡ true → EndsApart q (Spells D g)) → (r ≡ []) ⊎ Ending q r →
          (ts ≡ []) ⊎ Ending q ts
      go ts v l r e a b m (inr n) = inr (behind_front q ts l r e n)
      go ts v l r e a b m (inl f) =
          let same : l ≡ ts = sym (after ts l r e f) in
          subst (λ (z : List (K × V)). (z ≡ []) ⊎ Ending q z) same
          (m (follows_by (nullable h) (ends_apart kinds q g)
          (and-right (ends_apart kinds q h) (not (nullable h) || ends_apart kinds q g) w)
          (nulls D solid h v.1 (subst (λ (z : List (K × V)). Spells D h z v.1) f b))) l v.0 a)
  ends (either {A} g h) w = λ ts v t. go ts v
      (ends g (and-left (ends_apart kinds q g) (ends_apart kinds q h) w))
      (ends h (and-right (ends_apart kinds q g) (ends_apart kinds q h) w)) t
    where
      go : (ts : List (K × V)) (v : A) → EndsApart q (Spells D g) → EndsApart q (Spells D h) →
          Spells D (either g h) ts v → (ts ≡ []) ⊎ Ending q ts
      go ts v m n (inl t) = m ts v t
      go ts v m n (inr t) = n ts v t
  ends (many g) w = ends_many g (ends g w)
  ends (make f g) w = λ ts v t. ends g w ts t.0 t.2
  ends (opened {A} p s g h) w = λ ts v t. go ts v (ends g (and-left (ends_apart kinds q g) (not (nullable g)) first))
      (ends h (and-right (ends_apart kinds q g && not (nullable g)) (ends_apart kinds q h) w)) t
    where
      first : (ends_apart kinds q g && not (nullable g)) ≡ true
      first = and-left (ends_apart kinds q g && not (nullable g)) (ends_apart kinds q h) w

      filled : nullable g ≡ true → ⊥
      filled e = let f : not (nullable g) ≡ true =
          and-right (ends_apart kinds q g) (not (nullable g)) first in cc

      inside : (ts : List (K × V)) (v : A) (t : K × V) (r : List (K × V)) → ts ≡ t ∷ r → Spells D g r v →
          (r ≡ []) ⊎ Ending q r → (ts ≡ []) ⊎ Ending q ts
      inside ts v t r e a (inl f) =
          absurd (filled (nulls D solid g v (subst (λ (z : List (K × V)). Spells D g z v) f a)))
      inside ts v t r e a (inr n) = inr (behind_front q ts (t ∷ []) r e n)

      go : (ts : List (K × V)) (v : A) → EndsApart q (Spells D g) → EndsApart q (Spells D h) →
          Spells D (opened p s g h) ts v → (ts ≡ []) ⊎ Ending q ts
      go ts v m n (inl t) = inside ts v t.0 t.1 t.2 t.4 (m t.1 v t.4)
      go ts v m n (inr t) = n ts v t
  ends (again first) w = within

-- the recursive nonterminal, at any depth
module _ {K V P : Type 0} (kinds : List K) (apart : Disjoins kinds) (q : K → Bool) (g : Rule K V P P)
    (filled : nullable g ≡ false) (w : ends_apart kinds q g ≡ true) where
  nested_solid : (d : ℕ) → Solid (Nested g d)
  nested_solid zero = solid_of Nowhere (λ v t. t) g filled
  nested_solid (suc d) = solid_of (Nested g d) (nested_solid d) g filled

  pub any_solid : Solid (Any g)
  any_solid v t = nested_solid t.0 v t.1

  nested_ends : (d : ℕ) → EndsApart q (Nested g d)
  nested_ends zero = ends kinds apart q Nowhere (λ v t. t) (λ ts v t. absurd t) g w
  nested_ends (suc d) = ends kinds apart q (Nested g d) (nested_solid d) (nested_ends d) g w

  pub any_ends : EndsApart q (Any g)
  any_ends ts v t = nested_ends t.0 ts v t.1
