-- What the tokens of the grammar's parts gather.
use Rattle.std.proofs.Common.{◌≡◌, Bool, true, false, not, List, [], ◌∷◌, ◌++◌, Option, Some, None, refl, sym, ◌∙◌}
use Rattle.std.proofs.Common.{ap, flat_map, append-nil, append_assoc}
use Rattle.scan_base.specs.declared.truth.Truth.{Truth}
use Rattle.scan_base.specs.Predicate.{conjunction, disjunction, negation, truth_test}
use Rattle.sql_text.specs.declared.word.Keyword.TheVariants as word
use Rattle.sql_text.specs.declared.symbol.Symbol.TheVariants as symbol
use Rattle.sql_text.specs.declared.token.TokenKind.{TokenKind}
use Rattle.grammar.specs.Rule.{empty, both, many, make, Language, Spells}
use Rattle.sql_parse.specs.Notation.{Condition, Of, a_word, a_symbol, ◌⊳◌, ◌⊲◌, maybe, listed, joined, is_one_of}
use Rattle.sql_parse.specs.Productions.{negated}
use Rattle.sql_parse.specs.PredicateProductions.{inner, conj, pred, simple, primary_of, tested}
use Rattle.sql_parse.specs.PredicateProductions.{truth_value, test_of}
use Rattle.sql_parse.specs.PredicateProductions.{factor}
use Rattle.sql_parse.specs.Tokens.{Mark, same_word, same_symbol, is_word, is_symbol, word_token, symbol_token}
use Rattle.sql_parse.proofs.EveryKind.{kinds}
use Rattle.sql_parse.proofs.Everywhere.{apart}
use Rattle.sql_parse.proofs.Gathered.{Gathers, gathers_empty, gathers_both, gathers_either, gathers_many, gathers_make}
use Rattle.sql_parse.proofs.Gathered.{gathers_opened, avoids, gathers_nothing}

-- of what may be there
abbrev pub if_said : {A E : Type 0} → (A → List E) → Option A → List E
if_said said None = []
if_said said (Some x) = said x

module _ {E : Type 0} (e : Mark → List E) (D : Language Mark Condition) where
  abbrev pub Says : {A : Type 0} → Of A → (A → List E) → Type 0
  Says g said = Gathers e (Spells D g) said

  abbrev pub Silent : {A : Type 0} → Of A → Type 0
  Silent g = Gathers e (Spells D g) (λ v. [])

  pub behind : {A B : Type 0} (g : Of A) (h : Of B) (said : B → List E) → Silent g → Says h said → Says (g ⊳ h) said
  behind {A} {B} g h said first second =
      gathers_make e D (λ (p : A × B). p.1) (both g h) (λ (p : A × B). said p.1) said
      (gathers_both e D g h (λ v. []) said first second) (λ p. refl)

  pub before : {A B : Type 0} (g : Of A) (h : Of B) (said : A → List E) → Says g said → Silent h → Says (g ⊲ h) said
  before {A} {B} g h said first second =
      gathers_make e D (λ (p : A × B). p.0) (both g h) (λ (p : A × B). said p.0 ++ []) said
      (gathers_both e D g h said (λ v. []) first second) (λ p. append-nil (said p.0))

  pub if_there : {A : Type 0} (g : Of A) (said : A → List E) → Says g said → Says (maybe g) (if_said said)
  if_there {A} g said here =
      gathers_either e D (make Some g) (empty None) (if_said said)
      (gathers_make e D Some g said (if_said said) here (λ x. refl))
      (gathers_empty e D None (if_said said) refl)

  pub each : {A : Type 0} (separator : Of (Unit {0})) (g : Of A) (said : A → List E) → Silent separator →
      Says g said → Says (listed separator g) (flat_map said)
  each {A} separator g said quiet one_by_one =
      gathers_make e D (λ (p : A × List A). p.0 ∷ p.1) (both g (many (separator ⊳ g)))
      (λ (p : A × List A). said p.0 ++ flat_map said p.1) (flat_map said)
      (gathers_both e D g (many (separator ⊳ g)) said (flat_map said) one_by_one
      (gathers_many e D (separator ⊳ g) said (behind separator g said quiet one_by_one))) (λ p. refl)

-- ---- conditions

-- what joins predicates, and what tests them
abbrev pub is_logical : TokenKind → Bool
is_logical = is_one_of
    (is_word word.And ∷ is_word word.Or ∷ is_word word.Not ∷ is_word word.Is ∷ is_word word.True ∷
    is_word word.False ∷ is_word word.Unknown ∷ is_symbol symbol.LeftParenthesis ∷
    is_symbol symbol.RightParenthesis ∷ [])

joined_said : {E : Type 0} (said : Condition → List E) (f : Condition → Condition → Condition) →
    ((p q : Condition) → said (f p q) ≡ said p ++ said q) → (p : Condition) (qs : List Condition) →
    said p ++ flat_map said qs ≡ said (joined f p qs)
joined_said said f by p [] = append-nil (said p)
joined_said {E} said f by p (q ∷ qs) =
    sym (append_assoc (said p) (said q) (flat_map said qs))
    ∙ (ap (λ (z : List E). z ++ flat_map said qs) (sym (by p q)) ∙ joined_said said f by (f p q) qs)

module _ {E : Type 0} (e : Mark → List E) (none : (t : Mark) → not (is_logical t.0) ≡ false → e t ≡ [])
    (said : Condition → List E)
    (and_said : (p q : Condition) → said (conjunction p q) ≡ said p ++ said q)
    (or_said : (p q : Condition) → said (disjunction p q) ≡ said p ++ said q)
    (not_said : (p : Condition) → said p ≡ said (negation p))
    (test_said : (n : Bool) (t : Truth) (p : Condition) → said p ≡ said (truth_test n t p))
    (D : Language Mark Condition) (forms : Gathers e (Spells D simple) said) (deep : Gathers e D said) where
  abbrev others : TokenKind → Bool
  others k = not (is_logical k)

  logical : {A : Type 0} (g : Of A) → avoids kinds others false g ≡ true → Silent e D g
  logical g w = gathers_nothing e kinds apart others none false D (λ h. cc) g w

  no_and : avoids kinds others false (a_word word.And) ≡ true
  unfolding same_word same_symbol
  no_and = refl

  no_or : avoids kinds others false (a_word word.Or) ≡ true
  unfolding same_word same_symbol
  no_or = refl

  no_close : avoids kinds others false (a_symbol symbol.RightParenthesis) ≡ true
  unfolding same_word same_symbol
  no_close = refl

  no_test : avoids kinds others false (maybe (a_word word.Is ⊳ both negated truth_value)) ≡ true
  unfolding same_word same_symbol negated truth_value
  no_test = refl

  no_opener : avoids kinds others false (a_symbol symbol.LeftParenthesis) ≡ true
  unfolding same_word same_symbol
  no_opener = refl

  no_not : avoids kinds others false (a_word word.Not) ≡ true
  unfolding same_word same_symbol
  no_not = refl

  says_conj : Says e D conj said
  unfolding conj
  says_conj =
      gathers_make e D (λ (p : Condition × List Condition). joined conjunction p.0 p.1)
      (both inner (many (a_word word.And ⊳ inner)))
      (λ (p : Condition × List Condition). said p.0 ++ flat_map said p.1) said
      (gathers_both e D inner (many (a_word word.And ⊳ inner)) said (flat_map said) deep
      (gathers_many e D (a_word word.And ⊳ inner) said
      (behind e D (a_word word.And) inner said (logical (a_word word.And) no_and) deep)))
      (λ p. joined_said said conjunction and_said p.0 p.1)

  pub says_pred : Says e D pred said
  unfolding pred
  says_pred =
      gathers_make e D (λ (p : Condition × List Condition). joined disjunction p.0 p.1)
      (both conj (many (a_word word.Or ⊳ conj)))
      (λ (p : Condition × List Condition). said p.0 ++ flat_map said p.1) said
      (gathers_both e D conj (many (a_word word.Or ⊳ conj)) said (flat_map said) says_conj
      (gathers_many e D (a_word word.Or ⊳ conj) said
      (behind e D (a_word word.Or) conj said (logical (a_word word.Or) no_or) says_conj)))
      (λ p. joined_said said disjunction or_said p.0 p.1)

  says_primary : Says e D (primary_of simple) said
  says_primary =
      gathers_opened e D (is_symbol symbol.LeftParenthesis) (symbol_token symbol.LeftParenthesis)
      (pred ⊲ a_symbol symbol.RightParenthesis) simple said
      (λ t h. none t (apart others (is_symbol symbol.LeftParenthesis) no_opener t.0 h))
      (before e D pred (a_symbol symbol.RightParenthesis) said says_pred
      (logical (a_symbol symbol.RightParenthesis) no_close)) forms

  tested_said : (p : Condition) (test : Option (Bool × Truth)) → said p ++ [] ≡ said (tested p test)
  tested_said p None = append-nil (said p)
  tested_said p (Some test) = append-nil (said p) ∙ test_said test.0 test.1 p

  says_test : Says e D (test_of (primary_of simple)) said
  says_test =
      gathers_make e D (λ (p : Condition × Option (Bool × Truth)). tested p.0 p.1)
      (both (primary_of simple) (maybe (a_word word.Is ⊳ both negated truth_value)))
      (λ (p : Condition × Option (Bool × Truth)). said p.0 ++ []) said
      (gathers_both e D (primary_of simple) (maybe (a_word word.Is ⊳ both negated truth_value)) said (λ v. [])
      says_primary (logical (maybe (a_word word.Is ⊳ both negated truth_value)) no_test))
      (λ p. tested_said p.0 p.1)

  pub says_factor : Says e D factor said
  unfolding factor
  says_factor =
      gathers_opened e D (is_word word.Not) (word_token word.Not) (make negation inner)
      (test_of (primary_of simple)) said
      (λ t h. none t (apart others (is_word word.Not) no_not t.0 h))
      (gathers_make e D negation inner said said deep not_said) says_test
