-- Reading by a rule is lawful.
use Rattle.std.proofs.Common.{◌≡◌, Bool, true, false, cond, ◌&&◌, ◌||◌, not, ◌⊎◌, inl, inr, List, [], ◌∷◌, ◌++◌, Option, Some, None, refl, sym, ◌∙◌, ap, subst}
use Rattle.std.specs.Prelude.{is_some}
use Rattle.grammar.specs.Rule.{Rule, one, empty, both, either, many, make, opened, again, Language, Spells}
use Rattle.grammar.specs.Reading.{Over, Reader, nullable, starts, begins, taken, followed, chosen, made, nested, entered, reads}
use Rattle.grammar.proofs.Determined.{well_made, is_guarded, is_deep}
use Rattle.grammar.proofs.Flags.{and-left, and-right, not-true, or-and-left, or-and-right}
use Rattle.grammar.proofs.Laws.{IsOver, Fair, Lawful, Within, Speaks, Solid, Both, Image, One, both_fair, switch, made_fair, empty_fair, one_fair, chosen_fair, many_fair, begins-first}
use Rattle.grammar.proofs.Rules.{wider, speaks, speaks_flat, solid_of}

pub begins_next : {K V : Type 0} (p : K → Bool) (t : K × V) (ts : List (K × V)) → begins p (t ∷ ts) ≡ p t.0
unfolding begins
begins_next p t ts = refl

module _ {K V P : Type 0} (D : Option (Reader (K × V) P)) (L M : Language (K × V) P)
    (law : is_some D ≡ true → Lawful (nested D) L M) (base : is_some D ≡ true → Speaks L)
    (wide : Within L M) (all : Speaks M) (solid : Solid L) where
  -- each rule has a sentence, where the recursive nonterminal has one or is not needed
  some_sentence : {A : Type 0} (g : Rule K V P A) → well_made g ≡ true → (is_some D || is_guarded g) ≡ true → Speaks (Spells L g)
  some_sentence {A} g w c = go (is_some D) refl c
    where
      go : (b : Bool) → is_some D ≡ b → (b || is_guarded g) ≡ true → Speaks (Spells L g)
      go true e d = speaks L (base e) g w
      go false e d = speaks_flat L g w d

  -- an opener where none may be opened
  over : {A : Type 0} (p : K → Bool) (s : K × V) (g h : Rule K V P A) → well_made g ≡ true → (r : Reader (K × V) A) → (ts : List (K × V)) → begins p ts ≡ true → ((t : K × V) (us : List (K × V)) → p t.0 ≡ true → r (t ∷ us) ≡ Over) → IsOver r (Spells M (opened p s g h)) ts
  unfolding begins
  over p s g h w r [] b e = cc
  over p s g h w r (t ∷ ts) b e = let a = speaks M all g w in record { front = []; opener = t; rest = ts; splits = refl; more = a.0; value = a.1; goes_on = inl (t, a.0, refl, b, a.2); local = λ more. e t more b }

  pub lawful : {A : Type 0} (g : Rule K V P A) → well_made g ≡ true → (is_some D || is_guarded g) ≡ true → Lawful (reads D g) (Spells L g) (Spells M g)
  lawful (one p f s) w c = one_fair p f (some_sentence (one p f s) w c) (One p f)
  lawful (empty x) w c = empty_fair x (Spells M (empty x))
  lawful (both g h) w c = λ ts.
      let wg : well_made g ≡ true = and-left (well_made g) (well_made h) w in
      let wh : well_made h ≡ true = and-right (well_made g) (well_made h) w in
      let a : Lawful (reads D g) (Spells L g) (Spells M g) = lawful g wg (or-and-left (is_some D) (is_guarded g) (is_guarded h) c) in
      let b : Lawful (reads D h) (Spells L h) (Spells M h) = lawful h wh (or-and-right (is_some D) (is_guarded g) (is_guarded h) c) in
      both_fair (reads D g) (reads D h) (Spells L g) (Spells M g) (Spells L h) (Spells M h) (wider L M wide g) (some_sentence h wh (or-and-right (is_some D) (is_guarded g) (is_guarded h) c)) (speaks M all h wh) ts (reads D g ts) (a ts) (λ x mid e. b mid)
  lawful (either g h) w c = λ ts.
      let a : Lawful (reads D g) (Spells L g) (Spells M g) = lawful g (and-left (well_made g) (well_made h) w) (or-and-left (is_some D) (is_guarded g) (is_guarded h) c) in
      let b : Lawful (reads D h) (Spells L h) (Spells M h) = lawful h (and-right (well_made g) (well_made h) w) (or-and-right (is_some D) (is_guarded g) (is_guarded h) c) in
      chosen_fair (starts g) (reads D g) (reads D h) (Spells L g) (Spells M g) (Spells L h) (Spells M h) ts (λ _. a ts) (λ _. b ts)
  lawful (many g) w c =
      many_fair (starts g) (reads D g) (Spells L g) (Spells M g) (lawful g (and-left (well_made g) (not (nullable g)) w) c)
      (solid_of L solid g (not-true (nullable g) (and-right (well_made g) (not (nullable g)) w))) (wider L M wide g)
  lawful (make f g) w c = λ ts. made_fair f (reads D g) (Spells L g) (Spells M g) ts (reads D g ts) (lawful g w c ts)
  lawful (opened {A} p s g h) w c = λ ts. go ts (lawful g wg) (lawful h wh c)
    where
      parts : (well_made g && well_made h) ≡ true
      parts = and-right (p s.0 && is_deep g) (well_made g && well_made h) w

      wg : well_made g ≡ true
      wg = and-left (well_made g) (well_made h) parts

      wh : well_made h ≡ true
      wh = and-right (well_made g) (well_made h) parts

      ps : p s.0 ≡ true
      ps = and-left (p s.0) (is_deep g) (and-left (p s.0 && is_deep g) (well_made g && well_made h) w)

      Opener : Language (K × V) A → Language (K × V) A
      Opener N = Image (λ (x : Unit {0} × A). x.1) (Both (One p (λ _. Some tt)) N)

      joined : (N O : Language (K × V) A) (us : List (K × V)) (v : A) → Image (λ (x : Unit {0} × A). x.1) (Both (One p (λ _. Some tt)) N) us v → ((t : K × V) × (r : List (K × V)) × (us ≡ t ∷ r) × (p t.0 ≡ true) × N r v) ⊎ O us v
      joined N O us v q = inl (q.2.3.0, q.2.1, q.2.2 ∙ ap (λ (z : List (K × V)). z ++ q.2.1) q.2.3.1, q.2.3.2, subst (λ (z : A). N q.2.1 z) (sym q.1) q.2.4)

      enter : (ts : List (K × V)) → ((is_some D || is_guarded g) ≡ true → Lawful (reads D g) (Spells L g) (Spells M g)) → begins p ts ≡ true → (E : Option (Reader (K × V) P)) → D ≡ E → Fair (chosen p (entered D p (reads D g)) (reads D h)) (Spells L (opened p s g h)) (Spells M (opened p s g h)) ts (entered E p (reads D g) ts)
      enter ts lg b None e = over p s g h wg (chosen p (entered D p (reads D g)) (reads D h)) ts b (λ t us pt. rw (begins_next p t us ∙ pt, e) refl)
      enter ts lg b (Some R) e =
          let ready : (is_some D || is_guarded g) ≡ true = rw e refl in
          let first : Speaks (One {V = V} p (λ _. Some tt)) = (s ∷ [], tt, (s, refl, ps, refl)) in
          let r = followed (taken p (λ (t : K × V). Some tt)) (reads D g) in
          switch (made (λ (x : Unit {0} × A). x.1) r) (chosen p (entered D p (reads D g)) (reads D h)) (Opener (Spells L g)) (Opener (Spells M g)) (Spells L (opened p s g h)) (Spells M (opened p s g h)) ts
          (λ us f. rw (begins-first p us ts f ∙ b, e) refl) (joined (Spells L g) (Spells L h)) (joined (Spells M g) (Spells M h)) (made (λ (x : Unit {0} × A). x.1) r ts)
          (made_fair (λ (x : Unit {0} × A). x.1) r (Both (One p (λ _. Some tt)) (Spells L g)) (Both (One p (λ _. Some tt)) (Spells M g)) ts (r ts)
          (both_fair (taken p (λ (t : K × V). Some tt)) (reads D g) (One p (λ _. Some tt)) (One p (λ _. Some tt)) (Spells L g) (Spells M g) (λ us v q. q) (some_sentence g wg ready) (speaks M all g wg) ts (taken p (λ (t : K × V). Some tt) ts)
          (one_fair p (λ (t : K × V). Some tt) first (One p (λ _. Some tt)) ts) (λ x mid _. lg ready mid)))

      go : (ts : List (K × V)) → ((is_some D || is_guarded g) ≡ true → Lawful (reads D g) (Spells L g) (Spells M g)) → Lawful (reads D h) (Spells L h) (Spells M h) → Fair (reads D (opened p s g h)) (Spells L (opened p s g h)) (Spells M (opened p s g h)) ts (reads D (opened p s g h) ts)
      go ts lg lh = by_next (begins p ts) refl
        where
          by_next : (b : Bool) → begins p ts ≡ b → Fair (reads D (opened p s g h)) (Spells L (opened p s g h)) (Spells M (opened p s g h)) ts (cond b (entered D p (reads D g) ts) (reads D h ts))
          by_next true b = enter ts lg b D refl
          by_next false b = switch (reads D h) (chosen p (entered D p (reads D g)) (reads D h)) (Spells L h) (Spells M h) (Spells L (opened p s g h)) (Spells M (opened p s g h)) ts (λ us f. rw (begins-first p us ts f ∙ b) refl) (λ us v q. inr q) (λ us v q. inr q) (reads D h ts) (lh ts)
  lawful (again first) w c = λ ts. law (and-some (is_some D) c) ts
    where
      and-some : (b : Bool) → (b || false) ≡ true → b ≡ true
      and-some true e = refl
      and-some false e = cc
