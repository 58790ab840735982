-- The grammar as it is printed and the one that is read spell the same.
use Rattle.std.proofs.Common.{◌≡◌, ℕ, zero, suc, Bool, true, false, inl, inr, List, [], ◌++◌, Some, refl, sym, ◌∙◌}
use Rattle.std.proofs.Common.{ap, subst}
use Rattle.scan_base.specs.Predicate.{comparing, between, membership, null_test}
use Rattle.sql_text.specs.declared.word.Keyword.TheVariants as word
use Rattle.sql_text.specs.declared.symbol.Symbol.TheVariants as symbol
use Rattle.grammar.specs.Rule.{Rule, both, either, make, Language, Spells, Nested, Any, Nowhere}
use Rattle.grammar.proofs.Laws.{Within}
use Rattle.grammar.proofs.Rules.{wider}
use Rattle.sql_parse.specs.Tokens.{Mark}
use Rattle.sql_parse.specs.Productions.{operand, compare}
use Rattle.sql_parse.specs.Notation.{Condition, Of, a_word, a_symbol, word_for, ◌⊳◌, ◌⊲◌, listed}
use Rattle.sql_parse.specs.Productions.{negated}
use Rattle.sql_parse.specs.PredicateProductions.{comparison_of, range_of, membership_of}
use Rattle.sql_parse.specs.PredicateProductions.{null_test_of, simple}
use Rattle.sql_parse.specs.PredicateProductions.{primary_of, test_of, factor_of}
use Rattle.sql_parse.specs.PredicateProductions as printed
use Rattle.sql_parse.specs.Clauses.{query}
use Rattle.sql_parse.specs.Parse.{IsSentence, IsShallow}
use Rattle.sql_parse.specs.FactoredGrammar.{Value, compared, nulled, ranged, among, tail, forms, primary, test, factor_by_operand}

abbrev Negatable : Type 0
Negatable = Bool → Value → Condition

abbrev limits : Of (Value × Value)
limits = a_word word.Between ⊳ both operand (a_word word.And ⊳ operand)

abbrev members : Of (List Value)
members = a_word word.In ⊳ a_symbol symbol.LeftParenthesis ⊳ listed (a_symbol symbol.Comma) operand
    ⊲ a_symbol symbol.RightParenthesis

module _ (D : Language Mark Condition) where
  ranged_by : (r : List Mark) (x : Value × Value) → Spells D limits r x → Spells D ranged r (λ n a. between n a x.0 x.1)
  unfolding ranged
  ranged_by r x q = (
    (q.0.0, λ n a. between n a x.0 x.1),
    refl,
    (
      q.2.0,
      q.2.1,
      q.2.2,
      q.2.3,
      (
        x,
        refl,
        subst (λ (y : Value × Value). Spells D (both operand (a_word word.And ⊳ operand)) q.2.1 y) (sym q.1) q.2.4,
      ),
    ),
  )

  ranged_from : (r : List Mark) (f : Negatable) → Spells D ranged r f → (x : Value × Value) ×
      (f ≡ λ n a. between n a x.0 x.1) × Spells D limits r x
  unfolding ranged
  ranged_from r f q = (q.2.4.0, q.1 ∙ q.2.4.1, ((q.0.0, q.2.4.0), refl, (q.2.0, q.2.1, q.2.2, q.2.3, q.2.4.2)))

  in_parentheses : (r : List Mark) (x : List Value) (f : Negatable) → f ≡ (λ n a. membership n a x) →
      Spells D (listed (a_symbol symbol.Comma) operand ⊲ a_symbol symbol.RightParenthesis) r x →
      Spells D (make (λ items n a. membership n a items) (listed (a_symbol symbol.Comma) operand)
      ⊲ a_symbol symbol.RightParenthesis) r f
  in_parentheses r x f e q =
      let items = subst (λ (y : List Value). Spells D (listed (a_symbol symbol.Comma) operand) q.2.0 y) (sym q.1)
      q.2.3 in
      ((f, q.0.1), refl, (q.2.0, q.2.1, q.2.2, (x, e, items), q.2.4))

  out_of_parentheses : (r : List Mark) (f : Negatable) →
      Spells D (make (λ items n a. membership n a items) (listed (a_symbol symbol.Comma) operand)
      ⊲ a_symbol symbol.RightParenthesis) r f →
      (x : List Value) × (f ≡ λ n a. membership n a x) ×
      Spells D (listed (a_symbol symbol.Comma) operand ⊲ a_symbol symbol.RightParenthesis) r x
  out_of_parentheses r f q = (q.2.3.0, q.1 ∙ q.2.3.1, ((q.2.3.0, q.0.1), refl, (q.2.0, q.2.1, q.2.2, q.2.3.2, q.2.4)))

  among_by : (r : List Mark) (x : List Value) → Spells D members r x → Spells D among r (λ n a. membership n a x)
  unfolding among
  among_by r x q =
      let f : Negatable = λ n a. membership n a x in
      let i = q.2.4 in
      let same_items : x ≡ i.0.1 = q.1 ∙ i.1 in
      let closed = in_parentheses i.2.1 i.0.1 f
      (ap {B = Negatable} (λ (y : List Value) (n : Bool) (a : Value). membership n a y) same_items) i.2.4 in
      ((q.0.0, f), refl, (q.2.0, q.2.1, q.2.2, q.2.3, ((i.0.0, f), refl, (i.2.0, i.2.1, i.2.2, i.2.3, closed))))

  among_from : (r : List Mark) (f : Negatable) → Spells D among r f → (x : List Value) × (f ≡ λ n a. membership n a x)
      × Spells D members r x
  unfolding among
  among_from r f q =
      let i = q.2.4 in
      let out = out_of_parentheses i.2.1 i.0.1 i.2.4 in (
        out.0,
        q.1 ∙ (i.1 ∙ out.1),
        (
          (q.0.0, out.0),
          refl,
          (q.2.0, q.2.1, q.2.2, q.2.3, ((i.0.0, out.0), refl, (i.2.0, i.2.1, i.2.2, i.2.3, out.2))),
        ),
      )

  -- ---- after an operand, with NOT or without

  with_not : (r : List Mark) (f : Negatable) → Spells D (a_word word.Not ⊳ either ranged among) r f →
      Spells D tail r (f true)
  unfolding tail
  with_not r f q = inr (inl (f, refl, q))

  by_negated : {X : Type 0} (g : Of X) (h : Of Negatable) (mk : X → Negatable) →
      ((r : List Mark) (x : X) → Spells D g r x → Spells D h r (mk x)) →
      ((r : List Mark) (f : Negatable) → Spells D h r f → Spells D (either ranged among) r f) →
      ((r : List Mark) (f : Negatable) → Spells D h r f → Spells D tail r (f false)) →
      (r : List Mark) (n : Bool) (x : X) → Spells D (both negated g) r (n, x) → Spells D tail r (mk x n)
  unfolding negated
  by_negated {X} g h mk by signed plain r n x q = go q.0 q.1 q.2 q.3 q.4
    where
      go : (l s : List Mark) → r ≡ l ++ s → Spells D (either (word_for word.Not true) (Rule.empty false)) l n →
          Spells D g s x → Spells D tail r (mk x n)
      go l s e (inl w) b = let en : true ≡ n = (let i : Some true ≡ Some n = w.3 in cc) in
          subst (λ (m : Bool). Spells D tail r (mk x m)) en
          (with_not r (mk x) ((tt, mk x), refl, (l, s, e, (w.0, w.1, w.2, refl), signed s (mk x) (by s x b))))
      go l s e (inr w) b = let same_rest : s ≡ r = sym (e ∙ ap (λ (z : List Mark). z ++ s) w.0) in
          subst (λ (m : Bool). Spells D tail r (mk x m)) (sym w.1)
          (subst (λ (z : List Mark). Spells D tail z (mk x false)) same_rest (plain s (mk x) (by s x b)))

  plain_range : (r : List Mark) (f : Negatable) → Spells D ranged r f → Spells D tail r (f false)
  unfolding tail
  plain_range r f q = inr (inr (inl (f, refl, q)))

  plain_among : (r : List Mark) (f : Negatable) → Spells D among r f → Spells D tail r (f false)
  unfolding tail
  plain_among r f q = inr (inr (inr (inl (f, refl, q))))

  compared_tail : (r : List Mark) (f : Value → Condition) → Spells D compared r f → Spells D tail r f
  unfolding tail
  compared_tail r f q = inr (inr (inr (inr q)))

  nulled_tail : (r : List Mark) (f : Value → Condition) → Spells D nulled r f → Spells D tail r f
  unfolding tail
  nulled_tail r f q = inl q

  null_by : (r : List Mark) (n : Bool) → Spells D (a_word word.Is ⊳ negated ⊲ a_word word.Null) r n →
      Spells D nulled r (λ a. null_test n a)
  unfolding nulled
  null_by r n q =
      let inside = q.2.4 in
      let same_flag : inside.0.0 ≡ n = sym (q.1 ∙ inside.1) in (
        (q.0.0, λ a. null_test n a),
        refl,
        (
          q.2.0,
          q.2.1,
          q.2.2,
          q.2.3,
          (
            (λ a. null_test n a, inside.0.1),
            refl,
            (
              inside.2.0,
              inside.2.1,
              inside.2.2,
              (n, refl, subst (λ (m : Bool). Spells D negated inside.2.0 m) same_flag inside.2.3),
              inside.2.4,
            ),
          ),
        ),
      )

  null_from : (r : List Mark) (f : Value → Condition) → Spells D nulled r f → (n : Bool) × (f ≡ λ a. null_test n a) ×
      Spells D (a_word word.Is ⊳ negated ⊲ a_word word.Null) r n
  unfolding nulled
  null_from r f q =
      let inside = q.2.4 in
      let flag = inside.2.3 in (
        flag.0,
        q.1 ∙ (inside.1 ∙ flag.1),
        (
          (q.0.0, flag.0),
          refl,
          (
            q.2.0,
            q.2.1,
            q.2.2,
            q.2.3,
            ((flag.0, inside.0.1), refl, (inside.2.0, inside.2.1, inside.2.2, flag.2, inside.2.4)),
          ),
        ),
      )

  read_form : (ts : List Mark) (v : Condition) (a : Value) (f : Value → Condition) (l r : List Mark) → ts ≡ l ++ r →
      v ≡ f a → Spells D operand l a → Spells D tail r f → Spells D forms ts v
  unfolding forms
  read_form ts v a f l r e w s t = ((a, f), w, (l, r, e, s, t))

  pub read_simple : (ts : List Mark) (v : Condition) → Spells D simple ts v → Spells D forms ts v
  unfolding simple comparison_of range_of membership_of null_test_of compared
  read_simple ts v (inl q) = read_form ts v q.0.0 (λ a. comparing q.0.1.0 a q.0.1.1) q.2.0 q.2.1 q.2.2 q.1 q.2.3
      (compared_tail q.2.1 (λ a. comparing q.0.1.0 a q.0.1.1) (q.0.1, refl, q.2.4))
  read_simple ts v (inr (inl q)) = read_form ts v q.0.0 (λ a. between q.0.1.0 a q.0.1.1.0 q.0.1.1.1) q.2.0 q.2.1 q.2.2
      q.1 q.2.3
      (by_negated limits ranged (λ x n a. between n a x.0 x.1) ranged_by (λ r f s. inl s) plain_range q.2.1 q.0.1.0
      q.0.1.1 q.2.4)
  read_simple ts v (inr (inr (inl q))) =
      read_form ts v q.0.0 (λ a. membership q.0.1.0 a q.0.1.1) q.2.0 q.2.1 q.2.2 q.1 q.2.3
      (by_negated members among (λ x n a. membership n a x) among_by (λ r f s. inr s) plain_among q.2.1 q.0.1.0
      q.0.1.1 q.2.4)
  read_simple ts v (inr (inr (inr q))) =
      read_form ts v q.0.0 (λ a. null_test q.0.1 a) q.2.0 q.2.1 q.2.2 q.1 q.2.3
      (nulled_tail q.2.1 (λ a. null_test q.0.1 a) (null_by q.2.1 q.0.1 q.2.4))

  -- ---- back

  as_negated : (r : List Mark) (n : Bool) (l s : List Mark) → r ≡ l ++ s → Spells D (a_word word.Not) l tt →
      {X : Type 0} (g : Of X) (x : X) → Spells D g s x → Spells D (both negated g) r (true, x)
  unfolding negated
  as_negated r n l s e w g x q = (l, s, e, inl (w.0, w.1, w.2, refl), q)

  as_plain : (r : List Mark) → {X : Type 0} (g : Of X) (x : X) → Spells D g r x → Spells D (both negated g) r (false, x)
  unfolding negated
  as_plain r g x q = ([], r, refl, inr (refl, refl), q)

  range_form : (ts l r : List Mark) (v : Condition) (a : Value) (n : Bool) (x : Value × Value) → ts ≡ l ++ r →
      v ≡ between n a x.0 x.1 → Spells D operand l a → Spells D (both negated limits) r (n, x) → Spells D simple ts v
  unfolding simple range_of
  range_form ts l r v a n x e w s q = inr (inl ((a, (n, x)), w, (l, r, e, s, q)))

  member_form : (ts l r : List Mark) (v : Condition) (a : Value) (n : Bool) (x : List Value) → ts ≡ l ++ r →
      v ≡ membership n a x → Spells D operand l a → Spells D (both negated members) r (n, x) → Spells D simple ts v
  unfolding simple membership_of
  member_form ts l r v a n x e w s q = inr (inr (inl ((a, (n, x)), w, (l, r, e, s, q))))

  null_form : (ts l r : List Mark) (v : Condition) (a : Value) (n : Bool) → ts ≡ l ++ r → v ≡ null_test n a →
      Spells D operand l a → Spells D (a_word word.Is ⊳ negated ⊲ a_word word.Null) r n → Spells D simple ts v
  unfolding simple null_test_of
  null_form ts l r v a n e w s q = inr (inr (inr ((a, n), w, (l, r, e, s, q))))

  comparison_form : (ts l r : List Mark) (v : Condition) (a : Value) (f : Value → Condition) → ts ≡ l ++ r → v ≡ f a →
      Spells D operand l a → Spells D compared r f → Spells D simple ts v
  unfolding simple comparison_of compared
  comparison_form ts l r v a f e w s q = inl ((a, q.0), w ∙ ap (λ (g : Value → Condition). g a) q.1, (l, r, e, s, q.2))

  by_tail : (ts l r : List Mark) (v : Condition) (a : Value) (f : Value → Condition) → ts ≡ l ++ r → v ≡ f a →
      Spells D operand l a → Spells D tail r f → Spells D simple ts v
  unfolding tail
  by_tail ts l r v a f e w s (inl q) = let b =
      null_from r f q in null_form ts l r v a b.0 e (w ∙ ap (λ (g : Value → Condition). g a) b.1) s b.2
  by_tail ts l r v a f e w s (inr (inl q)) = go q.2.2.3 q.2.2.4
    where
      at_true : (h : Negatable) → q.2.0.1 ≡ h → v ≡ h true a
      at_true h i = w ∙ ap (λ (g : Value → Condition). g a) (q.1 ∙ ap (λ (k : Negatable). k true) (q.2.1 ∙ i))

      go : Spells D (a_word word.Not) q.2.2.0 q.2.0.0 → Spells D (either ranged among) q.2.2.1 q.2.0.1 →
          Spells D simple ts v
      go n (inl b) = let c = ranged_from q.2.2.1 q.2.0.1 b in
          range_form ts l r v a true c.0 e (at_true (λ m a. between m a c.0.0 c.0.1) c.1) s
          (as_negated r true q.2.2.0 q.2.2.1 q.2.2.2 n limits c.0 c.2)
      go n (inr b) = let c = among_from q.2.2.1 q.2.0.1 b in
          member_form ts l r v a true c.0 e (at_true (λ m a. membership m a c.0) c.1) s
          (as_negated r true q.2.2.0 q.2.2.1 q.2.2.2 n members c.0 c.2)
  by_tail ts l r v a f e w s (inr (inr (inl q))) =
      let b = ranged_from r q.0 q.2 in
      range_form ts l r v a false b.0 e
      (w ∙ ap (λ (g : Value → Condition). g a) (q.1 ∙ ap (λ (k : Negatable). k false) b.1)) s
      (as_plain r limits b.0 b.2)
  by_tail ts l r v a f e w s (inr (inr (inr (inl q)))) =
      let b = among_from r q.0 q.2 in
      member_form ts l r v a false b.0 e
      (w ∙ ap (λ (g : Value → Condition). g a) (q.1 ∙ ap (λ (k : Negatable). k false) b.1)) s
      (as_plain r members b.0 b.2)
  by_tail ts l r v a f e w s (inr (inr (inr (inr q)))) = comparison_form ts l r v a f e w s q

  pub print_forms : (ts : List Mark) (v : Condition) → Spells D forms ts v → Spells D simple ts v
  unfolding forms
  print_forms ts v q = by_tail ts q.2.0 q.2.1 v q.0.0 q.0.1 q.2.2 q.1 q.2.3 q.2.4

  -- ---- factors

  primary_by : (g h : Of Condition) → Within (Spells D g) (Spells D h) →
      Within (Spells D (primary_of g)) (Spells D (primary_of h))
  primary_by g h w ts v (inl q) = inl q
  primary_by g h w ts v (inr q) = inr (w ts v q)

  test_by : (g h : Of Condition) → Within (Spells D g) (Spells D h) →
      Within (Spells D (test_of g)) (Spells D (test_of h))
  test_by g h w ts v q = (q.0, q.1, (q.2.0, q.2.1, q.2.2, w q.2.0 q.0.0 q.2.3, q.2.4))

  factor_by : (g h : Of Condition) → Within (Spells D g) (Spells D h) →
      Within (Spells D (factor_of g)) (Spells D (factor_of h))
  factor_by g h w ts v (inl q) = inl q
  factor_by g h w ts v (inr q) = inr (w ts v q)

  read_factor : Within (Spells D printed.factor) (Spells D factor_by_operand)
  unfolding printed.factor factor_by_operand test primary
  read_factor = factor_by (test_of (primary_of simple)) (test_of (primary_of forms))
      (test_by (primary_of simple) (primary_of forms) (primary_by simple forms read_simple))

  print_factor : Within (Spells D factor_by_operand) (Spells D printed.factor)
  unfolding printed.factor factor_by_operand test primary
  print_factor = factor_by (test_of (primary_of forms)) (test_of (primary_of simple))
      (test_by (primary_of forms) (primary_of simple) (primary_by forms simple print_forms))

read_nested : (d : ℕ) → Within (Nested printed.factor d) (Nested factor_by_operand d)
read_nested zero = read_factor Nowhere
read_nested (suc d) = λ ts v q. read_factor (Nested factor_by_operand d) ts v
    (wider (Nested printed.factor d) (Nested factor_by_operand d) (read_nested d) printed.factor ts v q)

print_nested : (d : ℕ) → Within (Nested factor_by_operand d) (Nested printed.factor d)
print_nested zero = print_factor Nowhere
print_nested (suc d) = λ ts v q. print_factor (Nested printed.factor d) ts v
    (wider (Nested factor_by_operand d) (Nested printed.factor d) (print_nested d) factor_by_operand ts v q)

-- ---- queries

pub read_shallow : Within IsShallow (Spells (Nested factor_by_operand 64) query)
read_shallow = wider (Nested printed.factor 64) (Nested factor_by_operand 64) (read_nested 64) query

pub printed_shallow : Within (Spells (Nested factor_by_operand 64) query) IsShallow
printed_shallow = wider (Nested factor_by_operand 64) (Nested printed.factor 64) (print_nested 64) query

pub read_sentence : Within IsSentence (Spells (Any factor_by_operand) query)
read_sentence = wider (Any printed.factor) (Any factor_by_operand) (λ ts v q. (q.0, read_nested q.0 ts v q.1)) query

pub printed_sentence : Within (Spells (Any factor_by_operand) query) IsSentence
printed_sentence = wider (Any factor_by_operand) (Any printed.factor) (λ ts v q. (q.0, print_nested q.0 ts v q.1)) query

pub sentence_of_shallow : Within IsShallow IsSentence
sentence_of_shallow = wider (Nested printed.factor 64) (Any printed.factor) (λ ts v q. (64, q)) query
