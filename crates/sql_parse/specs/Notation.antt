-- Ways to write productions.
use Rattle.std.specs.Prelude.{Bool, List, [], ◌∷◌, Option, Some, None}
use Rattle.std.specs.List.{list_any}
use Rattle.scan_base.specs.Predicate.{Pred}
use Rattle.sql_text.specs.declared.word.Keyword.{Keyword}
use Rattle.sql_text.specs.declared.symbol.Symbol.{Symbol}
use Rattle.sql_text.specs.declared.token.TokenKind.{TokenKind}
use Rattle.grammar.specs.Rule.{Rule, one, empty, both, either, many, make}
use Rattle.sql_query.specs.declared.query.Term.{Term}
use Rattle.sql_parse.specs.Tokens.{Span, is_word, is_symbol, word_token}
use Rattle.sql_parse.specs.Tokens.{symbol_token}

-- what a predicate of a text says
abbrev pub Condition : Type 0
Condition = Pred Term

-- a production that spells an A
abbrev pub Of : Type 0 → Type 1
Of A = Rule TokenKind Span Condition A

-- the word, which says nothing more
abbrev pub a_word : Keyword → Of (Unit {0})
a_word w = one (is_word w) (λ t. Some tt) (word_token w)

-- the symbol, which says nothing more
abbrev pub a_symbol : Symbol → Of (Unit {0})
a_symbol s = one (is_symbol s) (λ t. Some tt) (symbol_token s)

-- the word, which stands for a value
abbrev pub word_for : {A : Type 0} → Keyword → A → Of A
word_for w x = one (is_word w) (λ t. Some x) (word_token w)

-- the symbol, which stands for a value
abbrev pub symbol_for : {A : Type 0} → Symbol → A → Of A
symbol_for s x = one (is_symbol s) (λ t. Some x) (symbol_token s)

-- one after the other, of which the second has the value
infixr 6 ◌⊳◌
abbrev pub ◌⊳◌ : {A B : Type 0} → Of A → Of B → Of B
g ⊳ h = make (λ p. p.1) (both g h)

-- one after the other, of which the first has the value
infixr 7 ◌⊲◌
abbrev pub ◌⊲◌ : {A B : Type 0} → Of A → Of B → Of A
g ⊲ h = make (λ p. p.0) (both g h)

-- [ g ]
abbrev pub maybe : {A : Type 0} → Of A → Of (Option A)
maybe g = either (make Some g) (empty None)

-- g { between g }
abbrev pub listed : {A : Type 0} → Of (Unit {0}) → Of A → Of (List A)
listed separator g = make (λ p. p.0 ∷ p.1) (both g (many (separator ⊳ g)))

-- predicates joined from the left
abbrev pub joined : (Condition → Condition → Condition) → Condition → List Condition → Condition
joined f p [] = p
joined f p (q ∷ qs) = joined f (f p q) qs

-- one of these tests holds
abbrev pub is_one_of : List (TokenKind → Bool) → TokenKind → Bool
is_one_of tests k = list_any (λ test. test k) tests
