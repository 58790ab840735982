-- Reading deeper changes no answer, and every sentence has a depth.
use Rattle.std.proofs.Common.{◌≡◌, ℕ, zero, suc, ◌+◌, ◌≤◌, Bool, true, false, cond, ◌⊎◌, inl, inr, List, [], ◌∷◌, length, Option, Some, None, refl, ap, arith}
use Rattle.std.specs.Prelude.{is_some}
use Rattle.grammar.specs.Rule.{Rule, one, empty, both, either, many, make, opened, again, Language, Repeats, Spells, Nowhere, Nested, Any}
use Rattle.grammar.specs.Reading.{Outcome, Read, Stuck, Over, Reader, and_then, starts, begins, taken, followed, repeats, nested, entered, reads, read}
use Rattle.grammar.proofs.Determined.{is_flat}
use Rattle.grammar.proofs.Flags.{and-left, and-right}
use Rattle.grammar.proofs.Laws.{Within}
use Rattle.grammar.proofs.Rules.{wider}

abbrev pub Agrees : {T A : Type 0} → Outcome T A → Outcome T A → Type 0
Agrees (Read v us) o = o ≡ Read v us
Agrees (Stuck us) o = o ≡ Stuck us
Agrees Over o = Unit {0}

abbrev pub Deeper : {T A : Type 0} → Reader T A → Reader T A → Type 0
Deeper {T} r s = (ts : List T) → Agrees (r ts) (s ts)

agrees_refl : {T A : Type 0} (o : Outcome T A) → Agrees o o
agrees_refl (Read v us) = refl
agrees_refl (Stuck us) = refl
agrees_refl Over = tt

agrees_then : {T A B : Type 0} (o p : Outcome T A) (f g : A → Reader T B) → Agrees o p → ((v : A) (us : List T) → Agrees (f v us) (g v us)) → Agrees (and_then o f) (and_then p g)
agrees_then (Read v us) p f g a h = rw a (h v us)
agrees_then (Stuck us) p f g a h = rw a refl
agrees_then Over p f g a h = tt

agrees_cond : {T A : Type 0} (b : Bool) (o p x y : Outcome T A) → Agrees o x → Agrees p y → Agrees (cond b o p) (cond b x y)
agrees_cond true o p x y a c = a
agrees_cond false o p x y a c = c

deeper_repeats : {K V A : Type 0} (p : K → Bool) (r s : Reader (K × V) A) → Deeper r s → (n : ℕ) → Deeper (repeats p r n) (repeats p s n)
deeper_repeats p r s h zero ts = refl
deeper_repeats p r s h (suc n) ts =
    agrees_cond (begins p ts) (and_then (r ts) (λ v us. and_then (repeats p r n us) (λ vs ws. Read (v ∷ vs) ws))) (Read [] ts) (and_then (s ts) (λ v us. and_then (repeats p s n us) (λ vs ws. Read (v ∷ vs) ws))) (Read [] ts)
    (agrees_then (r ts) (s ts) (λ v us. and_then (repeats p r n us) (λ vs ws. Read (v ∷ vs) ws)) (λ v us. and_then (repeats p s n us) (λ vs ws. Read (v ∷ vs) ws)) (h ts)
    (λ v us. agrees_then (repeats p r n us) (repeats p s n us) (λ vs ws. Read (v ∷ vs) ws) (λ vs ws. Read (v ∷ vs) ws) (deeper_repeats p r s h n us) (λ vs ws. refl)))
    refl

deeper_followed : {T A B : Type 0} (q r : Reader T A) (s t : Reader T B) → Deeper q r → Deeper s t → Deeper (followed q s) (followed r t)
deeper_followed q r s t h k ts = agrees_then (q ts) (r ts) (λ x us. and_then (s us) (λ y vs. Read (x, y) vs)) (λ x us. and_then (t us) (λ y vs. Read (x, y) vs)) (h ts)
    (λ x us. agrees_then (s us) (t us) (λ y vs. Read (x, y) vs) (λ y vs. Read (x, y) vs) (k us) (λ y vs. refl))

deeper_entered : {K V P A : Type 0} (R S : Option (Reader (K × V) P)) → (is_some R ≡ true → is_some S ≡ true) → (p : K → Bool) (r s : Reader (K × V) A) → Deeper r s → Deeper (entered R p r) (entered S p s)
deeper_entered None S o p r s h ts = tt
deeper_entered (Some d) None o p r s h ts = let e : false ≡ true = o refl in cc
deeper_entered {K} {V} {P} {A} (Some d) (Some e) o p r s h ts =
    let first = taken p (λ (t : K × V). Some tt) in
    agrees_then (followed first r ts) (followed first s ts) (λ (x : Unit {0} × A) us. Read x.1 us) (λ (x : Unit {0} × A) us. Read x.1 us)
    (deeper_followed first first r s (λ us. agrees_refl (first us)) h ts) (λ x us. refl)

pub deeper : {K V P A : Type 0} (R S : Option (Reader (K × V) P)) → (is_some R ≡ true → is_some S ≡ true) → Deeper (nested R) (nested S) → (g : Rule K V P A) → Deeper (reads R g) (reads S g)
deeper R S o h (one p f s) = λ ts. agrees_refl (taken p f ts)
deeper R S o h (empty x) = λ ts. refl
deeper R S o h (both g k) = deeper_followed (reads R g) (reads S g) (reads R k) (reads S k) (deeper R S o h g) (deeper R S o h k)
deeper R S o h (either g k) = λ ts. agrees_cond (begins (starts g) ts) (reads R g ts) (reads R k ts) (reads S g ts) (reads S k ts) (deeper R S o h g ts) (deeper R S o h k ts)
deeper R S o h (many g) = λ ts. deeper_repeats (starts g) (reads R g) (reads S g) (deeper R S o h g) (length ts) ts
deeper R S o h (make f g) = λ ts. agrees_then (reads R g ts) (reads S g ts) (λ x us. Read (f x) us) (λ x us. Read (f x) us) (deeper R S o h g ts) (λ x us. refl)
deeper R S o h (opened p s g k) = λ ts. agrees_cond (begins p ts) (entered R p (reads R g) ts) (reads R k ts) (entered S p (reads S g) ts) (reads S k ts) (deeper_entered R S o p (reads R g) (reads S g) (deeper R S o h g) ts) (deeper R S o h k ts)
deeper R S o h (again first) = h

pub read_deeper : {K V P : Type 0} (g : Rule K V P P) (d e : ℕ) → d ≤ e → Deeper (read g d) (read g e)
read_deeper g zero zero h = λ ts. agrees_refl (reads None g ts)
read_deeper g zero (suc e) h = deeper None (Some (read g e)) (λ o. refl) (λ ts. tt) g
read_deeper g (suc d) zero h = absurd (omega arith)
read_deeper g (suc d) (suc e) h = deeper (Some (read g d)) (Some (read g e)) (λ o. o) (read_deeper g d e (omega arith)) g

pub nested_more : {K V P : Type 0} (g : Rule K V P P) (d e : ℕ) → d ≤ e → Within (Nested g d) (Nested g e)
nested_more g zero zero h = λ ts v q. q
nested_more g zero (suc e) h = wider Nowhere (Nested g e) (λ ts v q. absurd q) g
nested_more g (suc d) zero h = absurd (omega arith)
nested_more g (suc d) (suc e) h = wider (Nested g d) (Nested g e) (nested_more g d e (omega arith)) g

module _ {K V P : Type 0} (rule : Rule K V P P) where
  pub spells_more : {A : Type 0} (g : Rule K V P A) (d e : ℕ) → d ≤ e → Within (Spells (Nested rule d) g) (Spells (Nested rule e) g)
  spells_more g d e h = wider (Nested rule d) (Nested rule e) (nested_more rule d e h) g

  -- a depth for all of them
  repeats_depth : {A : Type 0} (L : ℕ → Language (K × V) A) (N : Language (K × V) A) → ((d e : ℕ) → d ≤ e → Within (L d) (L e)) → ((ts : List (K × V)) (v : A) → N ts v → (d : ℕ) × L d ts v) → (vs : List A) (ts : List (K × V)) → Repeats N ts vs → (d : ℕ) × Repeats (L d) ts vs
  repeats_depth L N m h [] ts q = (0, q)
  repeats_depth {A} L N m h (v ∷ vs) ts q =
      let a = h q.0 v q.3 in
      let b = repeats_depth L N m h vs q.1 q.4 in
      let la : a.0 ≤ a.0 + b.0 = omega arith in
      let lb : b.0 ≤ a.0 + b.0 = omega arith in
      (a.0 + b.0, (q.0, q.1, q.2, m a.0 (a.0 + b.0) la q.0 v a.1, all (L b.0) (L (a.0 + b.0)) (m b.0 (a.0 + b.0) lb) vs q.1 b.1))
    where
      all : (M O : Language (K × V) A) → Within M O → (vs : List A) (ts : List (K × V)) → Repeats M ts vs → Repeats O ts vs
      all M O w [] ts q = q
      all M O w (v ∷ vs) ts q = (q.0, q.1, q.2, w q.0 v q.3, all M O w vs q.1 q.4)

  pub depth : {A : Type 0} (g : Rule K V P A) (ts : List (K × V)) (v : A) → Spells (Any rule) g ts v → (d : ℕ) × Spells (Nested rule d) g ts v
  depth (one p f s) = λ ts v q. (0, q)
  depth (empty x) = λ ts v q. (0, q)
  depth (both g h) = λ ts v q.
      let a = depth g q.0 v.0 q.3 in
      let b = depth h q.1 v.1 q.4 in
      let la : a.0 ≤ a.0 + b.0 = omega arith in
      let lb : b.0 ≤ a.0 + b.0 = omega arith in
      (a.0 + b.0, (q.0, q.1, q.2, spells_more g a.0 (a.0 + b.0) la q.0 v.0 a.1, spells_more h b.0 (a.0 + b.0) lb q.1 v.1 b.1))
  depth (either {A} g h) = λ ts v q. go ts v (depth g ts v) (depth h ts v) q
    where
      go : (ts : List (K × V)) (v : A) → (Spells (Any rule) g ts v → (d : ℕ) × Spells (Nested rule d) g ts v) → (Spells (Any rule) h ts v → (d : ℕ) × Spells (Nested rule d) h ts v) →
          Spells (Any rule) g ts v ⊎ Spells (Any rule) h ts v → (d : ℕ) × (Spells (Nested rule d) g ts v ⊎ Spells (Nested rule d) h ts v)
      go ts v a b (inl q) = ((a q).0, inl (a q).1)
      go ts v a b (inr q) = ((b q).0, inr (b q).1)
  depth (many g) = λ ts vs q. repeats_depth (λ d. Spells (Nested rule d) g) (Spells (Any rule) g) (spells_more g) (depth g) vs ts q
  depth (make f g) = λ ts v q. let a = depth g ts q.0 q.2 in (a.0, (q.0, q.1, a.1))
  depth (opened {A} p s g h) = λ ts v q. go ts v (depth g) (depth h ts v) q
    where
      go : (ts : List (K × V)) (v : A) → ((us : List (K × V)) (w : A) → Spells (Any rule) g us w → (d : ℕ) × Spells (Nested rule d) g us w) → (Spells (Any rule) h ts v → (d : ℕ) × Spells (Nested rule d) h ts v) →
          Spells (Any rule) (opened p s g h) ts v → (d : ℕ) × Spells (Nested rule d) (opened p s g h) ts v
      go ts v a b (inl q) = let c = a q.1 v q.4 in (c.0, inl (q.0, q.1, q.2, q.3, c.1))
      go ts v a b (inr q) = ((b q).0, inr (b q).1)
  depth (again first) = λ ts v q. q

-- ---- a rule without the recursive nonterminal is read alike by all

flat_repeats : {K V A : Type 0} (p : K → Bool) (r s : Reader (K × V) A) → ((ts : List (K × V)) → r ts ≡ s ts) → (n : ℕ) (ts : List (K × V)) → repeats p r n ts ≡ repeats p s n ts
flat_repeats p r s h zero ts = refl
flat_repeats {K} {V} {A} p r s h (suc n) ts = rw (h ts) (ap (λ (o : Outcome (K × V) (List A)). cond (begins p ts) o (Read [] ts)) (go (s ts) (λ us. flat_repeats p r s h n us)))
  where
    go : (o : Outcome (K × V) A) → ((us : List (K × V)) → repeats p r n us ≡ repeats p s n us) → and_then o (λ v us. and_then (repeats p r n us) (λ vs ws. Read (v ∷ vs) ws)) ≡ and_then o (λ v us. and_then (repeats p s n us) (λ vs ws. Read (v ∷ vs) ws))
    go (Read v us) ih = rw (ih us) refl
    go (Stuck us) ih = refl
    go Over ih = refl

pub flat_alike : {K V P A : Type 0} (R S : Option (Reader (K × V) P)) (g : Rule K V P A) → is_flat g ≡ true → (ts : List (K × V)) → reads R g ts ≡ reads S g ts
flat_alike R S (one p f s) w = λ ts. refl
flat_alike R S (empty x) w = λ ts. refl
flat_alike {K} {V} {P} R S (both {A} {B} g h) w = λ ts. rw (flat_alike R S g (and-left (is_flat g) (is_flat h) w) ts) (go (reads S g ts) (flat_alike R S h (and-right (is_flat g) (is_flat h) w)))
  where
    go : (o : Outcome (K × V) A) → ((us : List (K × V)) → reads R h us ≡ reads S h us) → and_then {B = A × B} o (λ x us. and_then {B = A × B} (reads R h us) (λ y vs. Read (x, y) vs)) ≡ and_then {B = A × B} o (λ x us. and_then {B = A × B} (reads S h us) (λ y vs. Read (x, y) vs))
    go (Read x us) e = rw (e us) refl
    go (Stuck us) e = refl
    go Over e = refl
flat_alike R S (either g h) w = λ ts. rw (flat_alike R S g (and-left (is_flat g) (is_flat h) w) ts, flat_alike R S h (and-right (is_flat g) (is_flat h) w) ts) refl
flat_alike R S (many g) w = λ ts. flat_repeats (starts g) (reads R g) (reads S g) (flat_alike R S g w) (length ts) ts
flat_alike R S (make f g) w = λ ts. rw (flat_alike R S g w ts) refl
flat_alike R S (opened p s g h) w = cc
flat_alike R S (again first) w = cc
