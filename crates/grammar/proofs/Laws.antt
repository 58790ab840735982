-- What a reader keeps to, and that the ways to put readers together keep it.
use Rattle.std.proofs.Common.{◌≡◌, ℕ, zero, suc, ◌<◌, ◌≤◌, Bool, true, false, cond, ◌⊎◌, List, [], ◌∷◌, ◌++◌, length, Option, Some, None, refl, sym, ◌∙◌, inl, inr, ap, subst, append_assoc, arith, length-append}
use Rattle.grammar.specs.Rule.{Language, Repeats}
use Rattle.grammar.specs.Reading.{Outcome, Read, Stuck, Over, Reader, and_then, begins, kept, taken, followed, chosen, made, repeats, repeated, token}

abbrev pub first_of : {T : Type 0} → List T → Option T
first_of [] = None
first_of (t ∷ ts) = Some t

-- It reads a sentence of L, having looked one token ahead and no further.
pub record IsRead {T A : Type 0} (r : Reader T A) (L : Language T A) (ts : List T) (v : A) (rest : List T) : Type 0 where
  pub front : List T
  pub splits : ts ≡ front ++ rest
  pub spells : L front v
  pub local : (more : List T) → first_of more ≡ first_of rest → r (front ++ more) ≡ Read v more

-- The tokens before the place begin a sentence of L, and it sticks at the place whatever stands after.
pub record IsStuck {T A : Type 0} (r : Reader T A) (L : Language T A) (ts : List T) (place : List T) : Type 0 where
  pub front : List T
  pub splits : ts ≡ front ++ place
  pub more : List T
  pub value : A
  pub goes_on : L (front ++ more) value
  pub local : (more : List T) → first_of more ≡ first_of place → r (front ++ more) ≡ Stuck more

-- The tokens up to an opener begin a sentence of M, and it goes no further whatever stands after.
pub record IsOver {T A : Type 0} (r : Reader T A) (M : Language T A) (ts : List T) : Type 0 where
  pub front : List T
  pub opener : T
  pub rest : List T
  pub splits : ts ≡ front ++ opener ∷ rest
  pub more : List T
  pub value : A
  pub goes_on : M (front ++ opener ∷ more) value
  pub local : (more : List T) → r (front ++ opener ∷ more) ≡ Over

-- L are the sentences within the limit, M all
abbrev pub Fair : {T A : Type 0} → Reader T A → Language T A → Language T A → List T → Outcome T A → Type 0
Fair r L M ts (Read v rest) = IsRead r L ts v rest
Fair r L M ts (Stuck place) = IsStuck r L ts place
Fair r L M ts Over = IsOver r M ts

abbrev pub Lawful : {T A : Type 0} → Reader T A → Language T A → Language T A → Type 0
Lawful {T} r L M = (ts : List T) → Fair r L M ts (r ts)

abbrev pub Within : {T A : Type 0} → Language T A → Language T A → Type 0
Within {T} {A} L M = (ts : List T) (v : A) → L ts v → M ts v

abbrev pub Speaks : {T A : Type 0} → Language T A → Type 0
Speaks {T} {A} L = (ts : List T) × (v : A) × L ts v

abbrev pub Both : {T A B : Type 0} → Language T A → Language T B → Language T (A × B)
Both {T} L M ts v = (l : List T) × (r : List T) × (ts ≡ l ++ r) × L l v.0 × M r v.1

pub first-append : {T : Type 0} (f a b : List T) → first_of a ≡ first_of b → first_of (f ++ a) ≡ first_of (f ++ b)
first-append [] a b e = e
first-append (t ∷ f) a b e = refl

pub begins-first : {K V : Type 0} (p : K → Bool) (a b : List (K × V)) → first_of a ≡ first_of b → begins p a ≡ begins p b
unfolding begins
begins-first p [] [] e = refl
begins-first p [] (t ∷ b) e = cc
begins-first p (t ∷ a) [] e = cc
begins-first {K} {V} p (t ∷ a) (u ∷ b) e = let h : t ≡ u = cc in ap (λ (x : K × V). p x.0) h

module _ {T A B : Type 0} (r : Reader T A) (s : Reader T B) (L M : Language T A) (N O : Language T B) where
  -- what follows a Read
  then : Within L M → (ts mid : List T) (x : A) → IsRead r L ts x mid → (o : Outcome T B) → Fair s N O mid o → Fair (followed r s) (Both L N) (Both M O) ts (and_then o (λ y vs. Read (x, y) vs))
  then wide ts mid x p (Read y rest) q = record {
    front = p.front ++ q.front;
    splits = p.splits ∙ (ap (λ (z : List T). p.front ++ z) q.splits ∙ sym (append_assoc p.front q.front rest));
    spells = (p.front, q.front, refl, p.spells, q.spells);
    local = λ more e. rw (append_assoc, p.local (q.front ++ more) (first-append q.front more rest e ∙ ap first_of (sym q.splits)), q.local more e) refl;
  }
  then wide ts mid x p (Stuck place) q = record {
    front = p.front ++ q.front;
    splits = p.splits ∙ (ap (λ (z : List T). p.front ++ z) q.splits ∙ sym (append_assoc p.front q.front place));
    more = q.more;
    value = (x, q.value);
    goes_on = (p.front, q.front ++ q.more, append_assoc p.front q.front q.more, p.spells, q.goes_on);
    local = λ more e. rw (append_assoc, p.local (q.front ++ more) (first-append q.front more place e ∙ ap first_of (sym q.splits)), q.local more e) refl;
  }
  then wide ts mid x p Over q = record {
    front = p.front ++ q.front;
    opener = q.opener;
    rest = q.rest;
    splits = p.splits ∙ (ap (λ (z : List T). p.front ++ z) q.splits ∙ sym (append_assoc p.front q.front (q.opener ∷ q.rest)));
    more = q.more;
    value = (x, q.value);
    goes_on = (p.front, q.front ++ q.opener ∷ q.more, append_assoc p.front q.front (q.opener ∷ q.more), wide p.front x p.spells, q.goes_on);
    local = λ more. rw (append_assoc, p.local (q.front ++ q.opener ∷ more) (first-append q.front (q.opener ∷ more) (q.opener ∷ q.rest) refl ∙ ap first_of (sym q.splits)), q.local more) refl;
  }

  pub both_fair : Within L M → Speaks N → Speaks O → (ts : List T) → (o : Outcome T A) → Fair r L M ts o → ((x : A) (mid : List T) → o ≡ Read x mid → Fair s N O mid (s mid)) → Fair (followed r s) (Both L N) (Both M O) ts (and_then o (λ x us. and_then (s us) (λ y vs. Read (x, y) vs)))
  both_fair wide m n ts (Read x mid) p q = then wide ts mid x p (s mid) (q x mid refl)
  both_fair wide m n ts (Stuck place) p q = record {
    front = p.front;
    splits = p.splits;
    more = p.more ++ m.0;
    value = (p.value, m.1);
    goes_on = (p.front ++ p.more, m.0, sym (append_assoc p.front p.more m.0), p.goes_on, m.2);
    local = λ more h. rw (p.local more h) refl;
  }
  both_fair wide m n ts Over p q = record {
    front = p.front;
    opener = p.opener;
    rest = p.rest;
    splits = p.splits;
    more = p.more ++ n.0;
    value = (p.value, n.1);
    goes_on = (p.front ++ p.opener ∷ p.more, n.0, sym (append_assoc p.front (p.opener ∷ p.more) n.0), p.goes_on, n.2);
    local = λ more. rw (p.local more) refl;
  }

-- another reader that agrees where the first token is the same, and languages with more sentences
pub switch : {T A : Type 0} (r s : Reader T A) (L M N O : Language T A) (ts : List T) → ((us : List T) → first_of us ≡ first_of ts → s us ≡ r us) → Within L N → Within M O → (o : Outcome T A) → Fair r L M ts o → Fair s N O ts o
switch r s L M N O ts same_there inner outer (Read v rest) p = record {
  front = p.front;
  splits = p.splits;
  spells = inner p.front v p.spells;
  local = λ more e. same_there (p.front ++ more) (first-append p.front more rest e ∙ ap first_of (sym p.splits)) ∙ p.local more e;
}
switch r s L M N O ts same_there inner outer (Stuck place) p = record {
  front = p.front;
  splits = p.splits;
  more = p.more;
  value = p.value;
  goes_on = inner (p.front ++ p.more) p.value p.goes_on;
  local = λ more e. same_there (p.front ++ more) (first-append p.front more place e ∙ ap first_of (sym p.splits)) ∙ p.local more e;
}
switch r s L M N O ts same_there inner outer Over p = record {
  front = p.front;
  opener = p.opener;
  rest = p.rest;
  splits = p.splits;
  more = p.more;
  value = p.value;
  goes_on = outer (p.front ++ p.opener ∷ p.more) p.value p.goes_on;
  local = λ more. same_there (p.front ++ p.opener ∷ more) (first-append p.front (p.opener ∷ more) (p.opener ∷ p.rest) refl ∙ ap first_of (sym p.splits)) ∙ p.local more;
}

-- the sentences of L, each with the image of its value
abbrev pub Image : {T A B : Type 0} → (A → B) → Language T A → Language T B
Image {T} {A} f L ts v = (x : A) × (v ≡ f x) × L ts x

pub made_fair : {T A B : Type 0} (f : A → B) (r : Reader T A) (L M : Language T A) (ts : List T) (o : Outcome T A) → Fair r L M ts o → Fair (made f r) (Image f L) (Image f M) ts (and_then o (λ x us. Read (f x) us))
made_fair f r L M ts (Read v rest) p = record { front = p.front; splits = p.splits; spells = (v, refl, p.spells); local = λ more e. rw (p.local more e) refl }
made_fair f r L M ts (Stuck place) p = record { front = p.front; splits = p.splits; more = p.more; value = f p.value; goes_on = (p.value, refl, p.goes_on); local = λ more e. rw (p.local more e) refl }
made_fair f r L M ts Over p = record { front = p.front; opener = p.opener; rest = p.rest; splits = p.splits; more = p.more; value = f p.value; goes_on = (p.value, refl, p.goes_on); local = λ more. rw (p.local more) refl }

abbrev pub Empty : {T A : Type 0} → A → Language T A
Empty x ts v = (ts ≡ []) × (v ≡ x)

pub empty_fair : {T A : Type 0} (x : A) (M : Language T A) → Lawful (λ (ts : List T). Read x ts) (Empty x) M
empty_fair x M ts = record { front = []; splits = refl; spells = (refl, refl); local = λ more e. refl }

abbrev pub One : {K V A : Type 0} → (K → Bool) → (K × V → Option A) → Language (K × V) A
One {K} {V} p f ts v = (t : K × V) × (ts ≡ t ∷ []) × (p t.0 ≡ true) × (f t ≡ Some v)

pub one_fair : {K V A : Type 0} (p : K → Bool) (f : K × V → Option A) (m : Speaks (One p f)) (M : Language (K × V) A) → Lawful (taken p f) (One p f) M
unfolding token
one_fair {K} {V} {A} p f m M [] = record { front = []; splits = refl; more = m.0; value = m.1; goes_on = m.2; local = λ more e. none more e }
  where
    none : (more : List (K × V)) → first_of more ≡ None → taken p f more ≡ Stuck more
    none [] e = refl
    none (t ∷ ts) e = cc
one_fair {K} {V} {A} p f m M (t ∷ ts) = by_kind (p t.0) refl
  where
    stuck : ((us : List (K × V)) → taken p f (t ∷ us) ≡ Stuck (t ∷ us)) → IsStuck (taken p f) (One p f) (t ∷ ts) (t ∷ ts)
    stuck h = record { front = []; splits = refl; more = m.0; value = m.1; goes_on = m.2; local = at }
      where
        at : (more : List (K × V)) → first_of more ≡ Some t → taken p f more ≡ Stuck more
        at [] e = cc
        at (u ∷ us) e = let same_token : t ≡ u = cc in subst (λ (x : K × V). taken p f (x ∷ us) ≡ Stuck (x ∷ us)) same_token (h us)

    by_value : p t.0 ≡ true → (o : Option A) → f t ≡ o → Fair (taken p f) (One p f) M (t ∷ ts) (kept o (t ∷ ts) ts)
    by_value e None h = stuck (λ us. rw (e, h) refl)
    by_value e (Some v) h = record { front = t ∷ []; splits = refl; spells = (t, refl, e, h); local = λ more _. rw (e, h) refl }

    by_kind : (b : Bool) → p t.0 ≡ b → Fair (taken p f) (One p f) M (t ∷ ts) (and_then (cond b (Read t ts) (Stuck (t ∷ ts))) (λ u us. kept (f u) (t ∷ ts) us))
    by_kind true e = by_value e (f t) refl
    by_kind false e = stuck (λ us. rw e refl)

abbrev pub Or : {T A : Type 0} → Language T A → Language T A → Language T A
Or L M ts v = L ts v ⊎ M ts v

-- a choice by the kind of the next token, of which each branch is asked only where it is chosen
pub chosen_fair : {K V A : Type 0} (p : K → Bool) (r s : Reader (K × V) A) (L M N O : Language (K × V) A) (ts : List (K × V)) → (begins p ts ≡ true → Fair r L M ts (r ts)) → (begins p ts ≡ false → Fair s N O ts (s ts)) → Fair (chosen p r s) (Or L N) (Or M O) ts (chosen p r s ts)
chosen_fair {K} {V} {A} p r s L M N O ts lr ls = go (begins p ts) refl
  where
    go : (b : Bool) → begins p ts ≡ b → Fair (chosen p r s) (Or L N) (Or M O) ts (cond b (r ts) (s ts))
    go true e = switch r (chosen p r s) L M (Or L N) (Or M O) ts (λ us h. rw (begins-first p us ts h ∙ e) refl) (λ us v l. inl l) (λ us v l. inl l) (r ts) (lr e)
    go false e = switch s (chosen p r s) N O (Or L N) (Or M O) ts (λ us h. rw (begins-first p us ts h ∙ e) refl) (λ us v l. inr l) (λ us v l. inr l) (s ts) (ls e)

abbrev pub Solid : {T A : Type 0} → Language T A → Type 0
Solid {T} {A} L = (v : A) → L [] v → ⊥

pub eats : {T A : Type 0} (r : Reader T A) (L : Language T A) → Solid L → (ts : List T) (v : A) (us : List T) → IsRead r L ts v us → length us < length ts
eats {T} r L solid ts v us p = go p.front p.splits p.spells
  where
    go : (front : List T) → ts ≡ front ++ us → L front v → length us < length ts
    go [] e l = absurd (solid v l)
    go (t ∷ front) e l = rw e (omega (arith, length-append front us))

module _ {K V A : Type 0} (p : K → Bool) (r : Reader (K × V) A) (L M : Language (K × V) A) (lawful_r : Lawful r L M) (solid : Solid L) where
  shorter : (ts : List (K × V)) (o : Outcome (K × V) A) → r ts ≡ o → Fair r L M ts o → (v : A) (us : List (K × V)) → o ≡ Read v us → length us < length ts
  shorter ts (Read w rest) e q v us h = let same_rest : rest ≡ us = cc in subst (λ (z : List (K × V)). length z < length ts) same_rest (eats r L solid ts w rest q)
  shorter ts (Stuck place) e q v us h = cc
  shorter ts Over e q v us h = cc

  pub falls : (ts : List (K × V)) (v : A) (us : List (K × V)) → r ts ≡ Read v us → length us < length ts
  falls ts v us h = shorter ts (r ts) refl (lawful_r ts) v us h

  at_fuel : (n m : ℕ) (ts : List (K × V)) → length ts ≤ n → length ts ≤ m → repeats p r n ts ≡ repeats p r m ts
  unfolding begins
  at_fuel zero zero ts a b = refl
  at_fuel zero (suc m) [] a b = refl
  at_fuel zero (suc m) (t ∷ ts) a b = absurd (omega arith)
  at_fuel (suc n) zero [] a b = refl
  at_fuel (suc n) zero (t ∷ ts) a b = absurd (omega arith)
  at_fuel (suc n) (suc m) ts a b = go (λ us. at_fuel n m us) (begins p ts) (r ts) refl
    where
      go : ((us : List (K × V)) → length us ≤ n → length us ≤ m → repeats p r n us ≡ repeats p r m us) → (x : Bool) (o : Outcome (K × V) A) → r ts ≡ o → cond x (and_then o (λ v us. and_then (repeats p r n us) (λ vs ws. Read (v ∷ vs) ws))) (Read [] ts) ≡ cond x (and_then o (λ v us. and_then (repeats p r m us) (λ vs ws. Read (v ∷ vs) ws))) (Read [] ts)
      go ih true (Read v us) e = let lt : length us < length ts = falls ts v us e in ap (λ (o : Outcome (K × V) (List A)). and_then o (λ vs ws. Read (v ∷ vs) ws)) (ih us (omega arith) (omega arith))
      go ih true (Stuck us) e = refl
      go ih true Over e = refl
      go ih false o e = refl

  pub step : (ts : List (K × V)) → repeated p r ts ≡ cond (begins p ts) (made (λ (x : A × List A). x.0 ∷ x.1) (followed r (repeated p r)) ts) (Read [] ts)
  unfolding begins
  step [] = refl
  step (t ∷ ts) = go (begins p (t ∷ ts)) (r (t ∷ ts)) refl
    where
      at : (v : A) (o : Outcome (K × V) (List A)) → and_then o (λ vs ws. Read (v ∷ vs) ws) ≡ and_then (and_then o (λ y vs. Read (v, y) vs)) (λ (x : A × List A) us. Read (x.0 ∷ x.1) us)
      at v (Read vs us) = refl
      at v (Stuck us) = refl
      at v Over = refl

      go : (x : Bool) (o : Outcome (K × V) A) → r (t ∷ ts) ≡ o → cond x (and_then o (λ v us. and_then (repeats p r (length ts) us) (λ vs ws. Read (v ∷ vs) ws))) (Read [] (t ∷ ts))
          ≡ cond x (and_then (and_then o (λ x us. and_then (repeated p r us) (λ y vs. Read (x, y) vs))) (λ (x : A × List A) us. Read (x.0 ∷ x.1) us)) (Read [] (t ∷ ts))
      go true (Read v us) e = let lt : length us < length (t ∷ ts) = falls (t ∷ ts) v us e in
          ap (λ (o : Outcome (K × V) (List A)). and_then o (λ vs ws. Read (v ∷ vs) ws)) (at_fuel (length ts) (length us) us (omega arith) (omega arith)) ∙ at v (repeated p r us)
      go true (Stuck us) e = refl
      go true Over e = refl
      go false o e = refl

  pub many_fair : Within L M → Lawful (repeated p r) (Repeats L) (Repeats M)
  many_fair wide ts = by_length (suc (length ts)) ts (omega arith)
    where
      more_joined : (N : Language (K × V) A) (us : List (K × V)) (vs : List A) → Image (λ (x : A × List A). x.0 ∷ x.1) (Both N (Repeats N)) us vs → Repeats N us vs
      more_joined N us vs q = rw q.1 q.2

      by_length : (n : ℕ) (us : List (K × V)) → length us < n → Fair (repeated p r) (Repeats L) (Repeats M) us (repeated p r us)
      by_length zero us h = absurd (omega arith)
      by_length (suc n) us h = subst (Fair (repeated p r) (Repeats L) (Repeats M) us) (sym (step us)) (go (λ mid h. by_length n mid h) (begins p us) refl)
        where
          go : ((mid : List (K × V)) → length mid < n → Fair (repeated p r) (Repeats L) (Repeats M) mid (repeated p r mid)) → (x : Bool) → begins p us ≡ x → Fair (repeated p r) (Repeats L) (Repeats M) us (cond x (made (λ (x : A × List A). x.0 ∷ x.1) (followed r (repeated p r)) us) (Read [] us))
          go ih false e = record { front = []; splits = refl; spells = refl; local = λ more g. step more ∙ rw (begins-first p more us g ∙ e) refl }
          go ih true e = switch (made (λ (x : A × List A). x.0 ∷ x.1) (followed r (repeated p r))) (repeated p r) (Image (λ (x : A × List A). x.0 ∷ x.1) (Both L (Repeats L))) (Image (λ (x : A × List A). x.0 ∷ x.1) (Both M (Repeats M))) (Repeats L) (Repeats M) us
              (λ ws g. step ws ∙ rw (begins-first p ws us g ∙ e) refl) (more_joined L) (more_joined M)
              (made (λ (x : A × List A). x.0 ∷ x.1) (followed r (repeated p r)) us)
              (made_fair (λ (x : A × List A). x.0 ∷ x.1) (followed r (repeated p r)) (Both L (Repeats L)) (Both M (Repeats M)) us (followed r (repeated p r) us)
              (both_fair r (repeated p r) L M (Repeats L) (Repeats M) wide ([], [], refl) ([], [], refl) us (r us) (lawful_r us)
              (λ v mid g. ih mid (let lt : length mid < length us = falls us v mid g in omega arith))))
