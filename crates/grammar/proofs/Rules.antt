-- What each rule spells: more where the recursive nonterminal spells more, something at all, and what its sentences begin with.
use Rattle.std.proofs.Common.{◌≡◌, Bool, true, false, cond, ◌&&◌, ◌||◌, not, ◌⊎◌, inl, inr, List, [], ◌∷◌, ◌++◌, refl, subst}
use Rattle.std.specs.Prelude.{is_some}
use Rattle.grammar.specs.Rule.{Rule, one, empty, both, either, many, make, opened, again, Language, Repeats, Spells, Nowhere}
use Rattle.grammar.specs.Reading.{nullable, starts}
use Rattle.grammar.proofs.Determined.{well_made, is_guarded, is_deep, covers, disjoint, determined}
use Rattle.grammar.proofs.Flags.{and-left, and-right, or-inl, or-inr, and-both, if_null, if_first, some_of}
use Rattle.grammar.proofs.Laws.{Speaks, Solid, Within}

-- ---- more sentences of the recursive nonterminal, more of each rule

wider_repeats : {T A : Type 0} (L M : Language T A) → Within L M → (vs : List A) (ts : List T) → Repeats L ts vs → Repeats M ts vs
wider_repeats L M h [] ts q = q
wider_repeats L M h (v ∷ vs) ts q = (q.0, q.1, q.2, h q.0 v q.3, wider_repeats L M h vs q.1 q.4)

pub wider : {K V P A : Type 0} (D E : Language (K × V) P) → Within D E → (g : Rule K V P A) → Within (Spells D g) (Spells E g)
wider D E h (one p f s) = λ ts v q. q
wider D E h (empty x) = λ ts v q. q
wider D E h (both g k) = λ ts v q. (q.0, q.1, q.2, wider D E h g q.0 v.0 q.3, wider D E h k q.1 v.1 q.4)
wider {K} {V} D E h (either {A} g k) = λ ts v q. go ts v (wider D E h g ts v) (wider D E h k ts v) q
  where
    go : (ts : List (K × V)) (v : A) → (Spells D g ts v → Spells E g ts v) → (Spells D k ts v → Spells E k ts v) → Spells D g ts v ⊎ Spells D k ts v → Spells E g ts v ⊎ Spells E k ts v
    go ts v a b (inl q) = inl (a q)
    go ts v a b (inr q) = inr (b q)
wider D E h (many g) = λ ts vs q. wider_repeats (Spells D g) (Spells E g) (wider D E h g) vs ts q
wider D E h (make f g) = λ ts v q. (q.0, q.1, wider D E h g ts q.0 q.2)
wider {K} {V} D E h (opened {A} p s g k) = λ ts v q. go ts v (wider D E h g) (wider D E h k ts v) q
  where
    go : (ts : List (K × V)) (v : A) → Within (Spells D g) (Spells E g) → (Spells D k ts v → Spells E k ts v) → Spells D (opened p s g k) ts v → Spells E (opened p s g k) ts v
    go ts v a b (inl q) = inl (q.0, q.1, q.2, q.3, a q.1 v q.4)
    go ts v a b (inr q) = inr (b q)
wider D E h (again first) = h

-- ---- each rule has a sentence

pub speaks : {K V P A : Type 0} (L : Language (K × V) P) → Speaks L → (g : Rule K V P A) → well_made g ≡ true → Speaks (Spells L g)
speaks L base (one p f s) w = let v = some_of (f s) (and-right (p s.0) (is_some (f s)) w) in (s ∷ [], v.0, (s, refl, and-left (p s.0) (is_some (f s)) w, v.1))
speaks L base (empty x) w = ([], x, (refl, refl))
speaks L base (both g h) w = let a = speaks L base g (and-left (well_made g) (well_made h) w) in let b = speaks L base h (and-right (well_made g) (well_made h) w) in
    (a.0 ++ b.0, (a.1, b.1), (a.0, b.0, refl, a.2, b.2))
speaks L base (either g h) w = let a = speaks L base g (and-left (well_made g) (well_made h) w) in (a.0, a.1, inl a.2)
speaks L base (many g) w = ([], [], refl)
speaks L base (make f g) w = let a = speaks L base g w in (a.0, f a.1, (a.1, refl, a.2))
speaks L base (opened p s g h) w = let a = speaks L base h (and-right (well_made g) (well_made h) (and-right (p s.0 && is_deep g) (well_made g && well_made h) w)) in (a.0, a.1, inr a.2)
speaks L base (again first) w = base

-- one without an opener, where the recursive nonterminal stands within openers alone
pub speaks_flat : {K V P A : Type 0} (L : Language (K × V) P) (g : Rule K V P A) → well_made g ≡ true → is_guarded g ≡ true → Speaks (Spells L g)
speaks_flat L (one p f s) w c = let v = some_of (f s) (and-right (p s.0) (is_some (f s)) w) in (s ∷ [], v.0, (s, refl, and-left (p s.0) (is_some (f s)) w, v.1))
speaks_flat L (empty x) w c = ([], x, (refl, refl))
speaks_flat L (both g h) w c =
    let a = speaks_flat L g (and-left (well_made g) (well_made h) w) (and-left (is_guarded g) (is_guarded h) c) in
    let b = speaks_flat L h (and-right (well_made g) (well_made h) w) (and-right (is_guarded g) (is_guarded h) c) in
    (a.0 ++ b.0, (a.1, b.1), (a.0, b.0, refl, a.2, b.2))
speaks_flat L (either g h) w c = let a = speaks_flat L g (and-left (well_made g) (well_made h) w) (and-left (is_guarded g) (is_guarded h) c) in (a.0, a.1, inl a.2)
speaks_flat L (many g) w c = ([], [], refl)
speaks_flat L (make f g) w c = let a = speaks_flat L g w c in (a.0, f a.1, (a.1, refl, a.2))
speaks_flat L (opened p s g h) w c = let a = speaks_flat L h (and-right (well_made g) (well_made h) (and-right (p s.0 && is_deep g) (well_made g && well_made h) w)) c in (a.0, a.1, inr a.2)
speaks_flat L (again first) w c = cc

-- none with an opener, where nothing may be opened
pub barred : {K V P A : Type 0} (L : Language (K × V) P) → Within L Nowhere → (g : Rule K V P A) → is_deep g ≡ true → (ts : List (K × V)) (v : A) → Spells L g ts v → ⊥
barred L none (one p f s) w = cc
barred L none (empty x) w = cc
barred {K} {V} L none (both {A} {B} g h) w = λ ts v q. go (is_deep g) refl q.0 q.1 v.0 v.1 (barred L none g) (barred L none h) w q.3 q.4
  where
    go : (b : Bool) → is_deep g ≡ b → (l r : List (K × V)) (x : A) (y : B) → (is_deep g ≡ true → (ts : List (K × V)) (v : A) → Spells L g ts v → ⊥) → (is_deep h ≡ true → (ts : List (K × V)) (v : B) → Spells L h ts v → ⊥) → (b || is_deep h) ≡ true → Spells L g l x → Spells L h r y → ⊥
    go true e l r x y m n d a b = m e l x a
    go false e l r x y m n d a b = n d r y b
barred {K} {V} L none (either {A} g h) w = λ ts v q. go ts v (barred L none g (and-left (is_deep g) (is_deep h) w)) (barred L none h (and-right (is_deep g) (is_deep h) w)) q
  where
    go : (ts : List (K × V)) (v : A) → ((ts : List (K × V)) (v : A) → Spells L g ts v → ⊥) → ((ts : List (K × V)) (v : A) → Spells L h ts v → ⊥) → Spells L g ts v ⊎ Spells L h ts v → ⊥
    go ts v m n (inl a) = m ts v a
    go ts v m n (inr a) = n ts v a
barred L none (many g) w = cc
barred L none (make f g) w = λ ts v q. barred L none g w ts q.0 q.2
barred {K} {V} L none (opened {A} p s g h) w = λ ts v q. go ts v (barred L none g (and-left (is_deep g) (is_deep h) w)) (barred L none h (and-right (is_deep g) (is_deep h) w)) q
  where
    go : (ts : List (K × V)) (v : A) → ((ts : List (K × V)) (v : A) → Spells L g ts v → ⊥) → ((ts : List (K × V)) (v : A) → Spells L h ts v → ⊥) → Spells L (opened p s g h) ts v → ⊥
    go ts v m n (inl a) = m a.1 v a.4
    go ts v m n (inr a) = n ts v a
barred L none (again first) w = none

-- ---- what begins a sentence

-- a rule with an empty sentence is nullable
pub nulls : {K V P A : Type 0} (L : Language (K × V) P) → Solid L → (g : Rule K V P A) (v : A) → Spells L g [] v → nullable g ≡ true
nulls L solid (one p f s) v q = let e : [] ≡ q.0 ∷ [] = q.1 in cc
nulls L solid (empty x) v q = refl
nulls {K} {V} L solid (both g h) v q = go (λ a. nulls L solid g v.0 a) (λ b. nulls L solid h v.1 b) q.0 q.1 q.2 q.3 q.4
  where
    go : (Spells L g [] v.0 → nullable g ≡ true) → (Spells L h [] v.1 → nullable h ≡ true) → (l r : List (K × V)) → [] ≡ l ++ r → Spells L g l v.0 → Spells L h r v.1 → (nullable g && nullable h) ≡ true
    go m n [] [] e a b = and-both (nullable g) (nullable h) (m a) (n b)
    go m n [] (t ∷ r) e a b = cc
    go m n (t ∷ l) r e a b = cc
nulls L solid (either g h) v (inl q) = or-inl (nullable g) (nullable h) (nulls L solid g v q)
nulls L solid (either g h) v (inr q) = or-inr (nullable g) (nullable h) (nulls L solid h v q)
nulls L solid (many g) v q = refl
nulls L solid (make f g) v q = nulls L solid g q.0 q.2
nulls L solid (opened p s g h) v (inl q) = let e : [] ≡ q.0 ∷ q.1 = q.2 in cc
nulls L solid (opened p s g h) v (inr q) = nulls L solid h v q
nulls L solid (again first) v q = absurd (solid v q)

pub solid_of : {K V P A : Type 0} (L : Language (K × V) P) → Solid L → (g : Rule K V P A) → nullable g ≡ false → Solid (Spells L g)
solid_of L solid g e v q = let h : nullable g ≡ true = nulls L solid g v q in cc

-- a nonempty sentence begins with one of the rule's kinds
abbrev pub StartsWith : {K V A : Type 0} → Language (K × V) A → (K → Bool) → Type 0
StartsWith {K} {V} {A} L p = (t : K × V) (ts : List (K × V)) (v : A) → L (t ∷ ts) v → p t.0 ≡ true

repeats_start : {K V A : Type 0} (L : Language (K × V) A) (p : K → Bool) → StartsWith L p → (vs : List A) (t : K × V) (ts : List (K × V)) → Repeats L (t ∷ ts) vs → p t.0 ≡ true
repeats_start L p law [] t ts q = cc
repeats_start {K} {V} {A} L p law (v ∷ vs) t ts q = go (λ rest r. repeats_start L p law vs t rest r) q.0 q.1 q.2 q.3 q.4
  where
    go : ((rest : List (K × V)) → Repeats L (t ∷ rest) vs → p t.0 ≡ true) → (l r : List (K × V)) → (t ∷ ts) ≡ l ++ r → L l v → Repeats L r vs → p t.0 ≡ true
    go ih [] [] e a b = cc
    go ih [] (u ∷ r) e a b = let h : u ≡ t = cc in ih r (subst (λ (x : K × V). Repeats L (x ∷ r) vs) h b)
    go ih (u ∷ l) r e a b = let h : u ≡ t = cc in subst (λ (x : K × V). p x.0 ≡ true) h (law u l v a)

abbrev pub Covers : {K : Type 0} → List K → Type 0
Covers {K} kinds = (p q : K → Bool) → covers kinds p q ≡ true → (k : K) → p k ≡ true → q k ≡ true

abbrev pub Disjoins : {K : Type 0} → List K → Type 0
Disjoins {K} kinds = (p q : K → Bool) → disjoint kinds p q ≡ true → (k : K) → q k ≡ true → p k ≡ false

pub started : {K V P A : Type 0} (kinds : List K) (L : Language (K × V) P) → Solid L → (s after : K → Bool) → StartsWith L s → Covers kinds → (g : Rule K V P A) (f : K → Bool) → determined kinds s after g f ≡ true → StartsWith (Spells L g) (starts g)
started {K} {V} kinds L solid s after law cov (one p m x) f d = λ t ts v q. let h : q.0 ≡ t = (let e : (t ∷ ts) ≡ q.0 ∷ [] = q.1 in cc) in subst (λ (x : K × V). p x.0 ≡ true) h q.2
started kinds L solid s after law cov (empty x) f d = λ t ts v q. let e : (t ∷ ts) ≡ [] = q.0 in cc
started {K} {V} kinds L solid s after law cov (both {A} {B} g h) f d = λ t ts v q. go t ts v (started kinds L solid s after law cov g (λ k. starts h k || (nullable h && f k)) (and-left (determined kinds s after g (λ k. starts h k || (nullable h && f k))) (determined kinds s after h f) d))
    (started kinds L solid s after law cov h f (and-right (determined kinds s after g (λ k. starts h k || (nullable h && f k))) (determined kinds s after h f) d)) q.0 q.1 q.2 q.3 q.4
  where
    go : (t : K × V) (ts : List (K × V)) (v : A × B) → StartsWith (Spells L g) (starts g) → StartsWith (Spells L h) (starts h) → (l r : List (K × V)) → (t ∷ ts) ≡ l ++ r → Spells L g l v.0 → Spells L h r v.1 → cond (nullable g) (starts g t.0 || starts h t.0) (starts g t.0) ≡ true
    go t ts v m n [] [] e a b = cc
    go t ts v m n [] (u ∷ r) e a b = let w : u ≡ t = cc in if_null (nullable g) (starts g t.0) (starts h t.0) (nulls L solid g v.0 a) (subst (λ (x : K × V). starts h x.0 ≡ true) w (n u r v.1 b))
    go t ts v m n (u ∷ l) r e a b = let w : u ≡ t = cc in if_first (nullable g) (starts g t.0) (starts h t.0) (subst (λ (x : K × V). starts g x.0 ≡ true) w (m u l v.0 a))
started {K} {V} kinds L solid s after law cov (either {A} g h) f d = λ t ts v q. go t ts v
    (started kinds L solid s after law cov g f (and-left (determined kinds s after g f) (determined kinds s after h f) (and-left (determined kinds s after g f && determined kinds s after h f) (not (nullable g) && disjoint kinds (starts g) (λ k. starts h k || (nullable h && f k))) d)))
    (started kinds L solid s after law cov h f (and-right (determined kinds s after g f) (determined kinds s after h f) (and-left (determined kinds s after g f && determined kinds s after h f) (not (nullable g) && disjoint kinds (starts g) (λ k. starts h k || (nullable h && f k))) d))) q
  where
    go : (t : K × V) (ts : List (K × V)) (v : A) → StartsWith (Spells L g) (starts g) → StartsWith (Spells L h) (starts h) → (Spells L g (t ∷ ts) v ⊎ Spells L h (t ∷ ts) v) → (starts g t.0 || starts h t.0) ≡ true
    go t ts v m n (inl q) = or-inl (starts g t.0) (starts h t.0) (m t ts v q)
    go t ts v m n (inr q) = or-inr (starts g t.0) (starts h t.0) (n t ts v q)
started kinds L solid s after law cov (many g) f d = λ t ts v q. repeats_start (Spells L g) (starts g) (started kinds L solid s after law cov g (λ k. starts g k || f k) (and-left (determined kinds s after g (λ k. starts g k || f k)) (disjoint kinds (starts g) f) d)) v t ts q
started kinds L solid s after law cov (make m g) f d = λ t ts v q. started kinds L solid s after law cov g f d t ts q.0 q.2
started {K} {V} kinds L solid s after law cov (opened {A} p x g h) f d = λ t ts v q. go t ts v
    (started kinds L solid s after law cov h f (and-right (determined kinds s after g f) (determined kinds s after h f) (and-left (determined kinds s after g f && determined kinds s after h f) (disjoint kinds p (λ k. starts h k || (nullable h && f k))) d))) q
  where
    go : (t : K × V) (ts : List (K × V)) (v : A) → StartsWith (Spells L h) (starts h) → Spells L (opened p x g h) (t ∷ ts) v → (p t.0 || starts h t.0) ≡ true
    go t ts v n (inl q) = let w : q.0 ≡ t = (let e : (t ∷ ts) ≡ q.0 ∷ q.1 = q.2 in cc) in or-inl (p t.0) (starts h t.0) (subst (λ (x : K × V). p x.0 ≡ true) w q.3)
    go t ts v n (inr q) = or-inr (p t.0) (starts h t.0) (n t ts v q)
started kinds L solid s after law cov (again first) f d = λ t ts v q. cov s first (and-left (covers kinds s first) (covers kinds f after) d) t.0 (law t ts v q)
