-- Each sentence is read, whatever may follow it.
use Rattle.std.proofs.Common.{◌≡◌, Bool, true, false, ◌&&◌, ◌||◌, not, ◌⊎◌, inl, inr, List, [], ◌∷◌, ◌++◌, Option, Some, None, refl, ◌∙◌, ap, append_assoc}
use Rattle.std.specs.Prelude.{is_some}
use Rattle.grammar.specs.Rule.{Rule, one, empty, both, either, many, make, opened, again, Language, Repeats, Spells, Nowhere}
use Rattle.grammar.specs.Reading.{Read, Reader, nullable, starts, begins, taken, followed, chosen, repeated, nested, entered, reads, token}
use Rattle.grammar.proofs.Determined.{well_made, is_guarded, is_deep, disjoint, covers, determined}
use Rattle.grammar.proofs.Flags.{and-left, and-right, or-inl, or-inr, and-both, not-true, or-and-left, or-and-right}
use Rattle.grammar.proofs.Laws.{Lawful, Within, Speaks, Solid, step}
use Rattle.grammar.proofs.Rules.{nulls, solid_of, barred, StartsWith, started, Covers, Disjoins}
use Rattle.grammar.proofs.Lawfulness.{lawful, begins_next}

abbrev pub Follows : {K V : Type 0} → (K → Bool) → List (K × V) → Type 0
Follows f [] = Unit {0}
Follows f (t ∷ ts) = f t.0 ≡ true

-- each sentence is read, where what follows may follow
abbrev pub Complete : {K V A : Type 0} → Reader (K × V) A → Language (K × V) A → (K → Bool) → Type 0
Complete {K} {V} {A} r L f = (ts : List (K × V)) (v : A) (rest : List (K × V)) → L ts v → Follows f rest → r (ts ++ rest) ≡ Read v rest

one_complete : {K V A : Type 0} (p : K → Bool) (m : K × V → Option A) (f : K → Bool) → Complete (taken p m) (λ ts v. (t : K × V) × (ts ≡ t ∷ []) × (p t.0 ≡ true) × (m t ≡ Some v)) f
unfolding token
one_complete p m f ts v rest q fol = rw (q.1, q.2, q.3) refl

begun : {K V A : Type 0} (M : Language (K × V) A) (p : K → Bool) → Solid M → StartsWith M p → (ts rest : List (K × V)) (v : A) → M ts v → begins p (ts ++ rest) ≡ true
unfolding begins
begun M p so st [] rest v q = absurd (so v q)
begun M p so st (t ∷ ts) rest v q = st t ts v q

after_many : {K V A : Type 0} (M : Language (K × V) A) (p f : K → Bool) → Solid M → StartsWith M p → (ts rest : List (K × V)) (vs : List A) → Repeats M ts vs → Follows f rest → Follows (λ k. p k || f k) (ts ++ rest)
after_many M p f so st ts [] [] q fol = rw q tt
after_many M p f so st ts (t ∷ rest) [] q fol = rw q (or-inr (p t.0) (f t.0) fol)
after_many {K} {V} {A} M p f so st ts rest (v ∷ vs) q fol = go q.0 q.1 q.2 q.3
  where
    go : (l r : List (K × V)) → ts ≡ l ++ r → M l v → Follows (λ k. p k || f k) (ts ++ rest)
    go [] r e a = absurd (so v a)
    go (t ∷ l) r e a = rw e (or-inl (p t.0) (f t.0) (st t l v a))

-- after an opener, where one may be opened
inside : {K V P A : Type 0} (D : Option (Reader (K × V) P)) (p : K → Bool) (r : Reader (K × V) A) (t : K × V) (ts : List (K × V)) (v : A) (rest : List (K × V)) → is_some D ≡ true → p t.0 ≡ true → r ts ≡ Read v rest → entered D p r (t ∷ ts) ≡ Read v rest
unfolding token
inside None p r t ts v rest o e h = cc
inside (Some d) p r t ts v rest o e h = rw (e, h) refl

module _ {K V P : Type 0} (kinds : List K) (cov : Covers kinds) (dis : Disjoins kinds) (D : Option (Reader (K × V) P)) (L M : Language (K × V) P)
    (law : is_some D ≡ true → Lawful (nested D) L M) (base : is_some D ≡ true → Speaks L)
    (wide : Within L M) (all : Speaks M) (solid : Solid L) (shut : is_some D ≡ false → Within L Nowhere)
    (s after : K → Bool) (start : StartsWith L s) (whole : Complete (nested D) L after) where
  after_r : {A : Type 0} (h : Rule K V P A) (f : K → Bool) (r : List (K × V)) (v : A) (rest : List (K × V)) → StartsWith (Spells L h) (starts h) → Spells L h r v → Follows f rest → Follows (λ k. starts h k || (nullable h && f k)) (r ++ rest)
  after_r h f [] v [] st q fol = tt
  after_r h f [] v (t ∷ rest) st q fol = or-inr (starts h t.0) (nullable h && f t.0) (and-both (nullable h) (f t.0) (nulls L solid h v q) fol)
  after_r h f (t ∷ r) v rest st q fol = or-inl (starts h t.0) (nullable h && f t.0) (st t r v q)

  not_begun : (p q : K → Bool) → disjoint kinds p q ≡ true → (ts : List (K × V)) → Follows q ts → begins p ts ≡ false
  unfolding begins
  not_begun p q d [] fol = refl
  not_begun p q d (t ∷ ts) fol = dis p q d t.0 fol

  many_complete : {A : Type 0} (r : Reader (K × V) A) (N O : Language (K × V) A) (p f : K → Bool) → Lawful r N O → Solid N → StartsWith N p → disjoint kinds p f ≡ true → Complete r N (λ k. p k || f k) →
      (vs : List A) (ts rest : List (K × V)) → Repeats N ts vs → Follows f rest → repeated p r (ts ++ rest) ≡ Read vs rest
  many_complete r N O p f ln sn st d rm [] ts rest q fol = rw q (step p r N O ln sn rest ∙ rw (not_begun p f d rest fol) refl)
  many_complete r N O p f ln sn st d rm (v ∷ vs) ts rest q fol =
      let e : ts ++ rest ≡ q.0 ++ (q.1 ++ rest) = ap (λ (z : List (K × V)). z ++ rest) q.2 ∙ append_assoc q.0 q.1 rest in
      let b = begun N p sn st q.0 (q.1 ++ rest) v q.3 in
      let c = rm q.0 v (q.1 ++ rest) q.3 (after_many N p f sn st q.1 rest vs q.4 fol) in
      let ih = many_complete r N O p f ln sn st d rm vs q.1 rest q.4 fol in
      ap (repeated p r) e ∙ (step p r N O ln sn (q.0 ++ (q.1 ++ rest)) ∙ rw (b, c, ih) refl)

  begun_by : {A : Type 0} (g : Rule K V P A) (f : K → Bool) → determined kinds s after g f ≡ true → StartsWith (Spells L g) (starts g)
  begun_by g f d = started kinds L solid s after start cov g f d

  pub complete : {A : Type 0} (g : Rule K V P A) (f : K → Bool) → well_made g ≡ true → (is_some D || is_guarded g) ≡ true → determined kinds s after g f ≡ true → Complete (reads D g) (Spells L g) f
  complete (one p m t) f w c d = one_complete p m f
  complete (empty x) f w c d = λ ts v rest q fol. rw (q.0, q.1) refl
  complete (both g h) f w c d = λ ts v rest q fol.
      let wg : well_made g ≡ true = and-left (well_made g) (well_made h) w in
      let wh : well_made h ≡ true = and-right (well_made g) (well_made h) w in
      let dg = and-left (determined kinds s after g (λ k. starts h k || (nullable h && f k))) (determined kinds s after h f) d in
      let dh = and-right (determined kinds s after g (λ k. starts h k || (nullable h && f k))) (determined kinds s after h f) d in
      let e : ts ++ rest ≡ q.0 ++ (q.1 ++ rest) = ap (λ (z : List (K × V)). z ++ rest) q.2 ∙ append_assoc q.0 q.1 rest in
      let a = complete g (λ k. starts h k || (nullable h && f k)) wg (or-and-left (is_some D) (is_guarded g) (is_guarded h) c) dg q.0 v.0 (q.1 ++ rest) q.3 (after_r h f q.1 v.1 rest (begun_by h f dh) q.4 fol) in
      let b = complete h f wh (or-and-right (is_some D) (is_guarded g) (is_guarded h) c) dh q.1 v.1 rest q.4 fol in
      ap (followed (reads D g) (reads D h)) e ∙ rw (a, b) refl
  complete {A} (either g h) f w c d = λ ts v rest q fol. go ts v rest fol
      (complete g f (and-left (well_made g) (well_made h) w) (or-and-left (is_some D) (is_guarded g) (is_guarded h) c) dg)
      (complete h f (and-right (well_made g) (well_made h) w) (or-and-right (is_some D) (is_guarded g) (is_guarded h) c) dh) q
    where
      d1 : (determined kinds s after g f && determined kinds s after h f) ≡ true
      d1 = and-left (determined kinds s after g f && determined kinds s after h f) (not (nullable g) && disjoint kinds (starts g) (λ k. starts h k || (nullable h && f k))) d

      d2 : (not (nullable g) && disjoint kinds (starts g) (λ k. starts h k || (nullable h && f k))) ≡ true
      d2 = and-right (determined kinds s after g f && determined kinds s after h f) (not (nullable g) && disjoint kinds (starts g) (λ k. starts h k || (nullable h && f k))) d

      dg : determined kinds s after g f ≡ true
      dg = and-left (determined kinds s after g f) (determined kinds s after h f) d1

      dh : determined kinds s after h f ≡ true
      dh = and-right (determined kinds s after g f) (determined kinds s after h f) d1

      go : (ts : List (K × V)) (v : A) (rest : List (K × V)) → Follows f rest → Complete (reads D g) (Spells L g) f → Complete (reads D h) (Spells L h) f → (Spells L g ts v ⊎ Spells L h ts v) → chosen (starts g) (reads D g) (reads D h) (ts ++ rest) ≡ Read v rest
      go ts v rest fol cg ch (inl q) =
          let b = begun (Spells L g) (starts g) (solid_of L solid g (not-true (nullable g) (and-left (not (nullable g)) (disjoint kinds (starts g) (λ k. starts h k || (nullable h && f k))) d2))) (begun_by g f dg) ts rest v q in
          rw b (cg ts v rest q fol)
      go ts v rest fol cg ch (inr q) =
          let b = not_begun (starts g) (λ k. starts h k || (nullable h && f k)) (and-right (not (nullable g)) (disjoint kinds (starts g) (λ k. starts h k || (nullable h && f k))) d2) (ts ++ rest)
          (after_r h f ts v rest (begun_by h f dh) q fol) in
          rw b (ch ts v rest q fol)
  complete (many g) f w c d =
      let wg : well_made g ≡ true = and-left (well_made g) (not (nullable g)) w in
      let nu : nullable g ≡ false = not-true (nullable g) (and-right (well_made g) (not (nullable g)) w) in
      let dg = and-left (determined kinds s after g (λ k. starts g k || f k)) (disjoint kinds (starts g) f) d in
      λ ts vs rest q fol. many_complete (reads D g) (Spells L g) (Spells M g) (starts g) f (lawful D L M law base wide all solid g wg c) (solid_of L solid g nu)
      (begun_by g (λ k. starts g k || f k) dg)
      (and-right (determined kinds s after g (λ k. starts g k || f k)) (disjoint kinds (starts g) f) d)
      (complete g (λ k. starts g k || f k) wg c dg) vs ts rest q fol
  complete (make m g) f w c d = λ ts v rest q fol. rw (complete g f w c d ts q.0 rest q.2 fol, q.1) refl
  complete {A} (opened p t0 g h) f w c d = λ ts v rest q fol. go ts v rest fol (complete g f wg) (complete h f wh c dh) q
    where
      parts : (well_made g && well_made h) ≡ true
      parts = and-right (p t0.0 && is_deep g) (well_made g && well_made h) w

      wg : well_made g ≡ true
      wg = and-left (well_made g) (well_made h) parts

      wh : well_made h ≡ true
      wh = and-right (well_made g) (well_made h) parts

      deep : is_deep g ≡ true
      deep = and-right (p t0.0) (is_deep g) (and-left (p t0.0 && is_deep g) (well_made g && well_made h) w)

      d1 : (determined kinds s after g f && determined kinds s after h f) ≡ true
      d1 = and-left (determined kinds s after g f && determined kinds s after h f) (disjoint kinds p (λ k. starts h k || (nullable h && f k))) d

      dg : determined kinds s after g f ≡ true
      dg = and-left (determined kinds s after g f) (determined kinds s after h f) d1

      dh : determined kinds s after h f ≡ true
      dh = and-right (determined kinds s after g f) (determined kinds s after h f) d1

      open_read : (t : K × V) (r : List (K × V)) (v : A) (rest : List (K × V)) → Follows f rest → p t.0 ≡ true → ((is_some D || is_guarded g) ≡ true → determined kinds s after g f ≡ true → Complete (reads D g) (Spells L g) f) → Spells L g r v → (b : Bool) → is_some D ≡ b → entered D p (reads D g) (t ∷ (r ++ rest)) ≡ Read v rest
      open_read t r v rest fol e cg q false o = absurd (barred L (shut o) g deep r v q)
      open_read t r v rest fol e cg q true o = inside D p (reads D g) t (r ++ rest) v rest o e (cg (or-inl (is_some D) (is_guarded g) o) dg r v rest q fol)

      go : (ts : List (K × V)) (v : A) (rest : List (K × V)) → Follows f rest → ((is_some D || is_guarded g) ≡ true → determined kinds s after g f ≡ true → Complete (reads D g) (Spells L g) f) → Complete (reads D h) (Spells L h) f → Spells L (opened p t0 g h) ts v → reads D (opened p t0 g h) (ts ++ rest) ≡ Read v rest
      go ts v rest fol cg ch (inl q) = rw (q.2, begins_next p q.0 (q.1 ++ rest) ∙ q.3) (open_read q.0 q.1 v rest fol q.3 cg q.4 (is_some D) refl)
      go ts v rest fol cg ch (inr q) =
          let b = not_begun p (λ k. starts h k || (nullable h && f k)) (and-right (determined kinds s after g f && determined kinds s after h f) (disjoint kinds p (λ k. starts h k || (nullable h && f k))) d) (ts ++ rest)
          (after_r h f ts v rest (begun_by h f dh) q fol) in
          rw b (ch ts v rest q fol)
  complete (again first) f w c d = λ ts v rest q fol. whole ts v rest q (narrower rest fol)
    where
      narrower : (rest : List (K × V)) → Follows f rest → Follows after rest
      narrower [] fol = tt
      narrower (t ∷ rest) fol = cov f after (and-right (covers kinds s first) (covers kinds f after) d) t.0 fol
