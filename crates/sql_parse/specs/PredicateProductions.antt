-- The grammar of predicates, production by production.
use Rattle.std.specs.Prelude.{Bool, [], ◌∷◌, Option, Some, None}
use Rattle.std.specs.List.{list_any}
use Rattle.scan_base.specs.declared.truth.Truth.{Truth}
use Rattle.scan_base.specs.declared.truth.Truth.TheVariants as truth
use Rattle.scan_base.specs.Predicate.{conjunction, disjunction, negation, truth_test, comparing}
use Rattle.scan_base.specs.Predicate.{between, membership, null_test}
use Rattle.sql_text.specs.declared.word.Keyword.TheVariants as word
use Rattle.sql_text.specs.declared.symbol.Symbol.TheVariants as symbol
use Rattle.sql_text.specs.declared.token.TokenKind.{TokenKind}
use Rattle.grammar.specs.Rule.{both, either, many, make, opened, again}
use Rattle.sql_text.specs.Words.{is_name}
use Rattle.sql_parse.specs.Tokens.{is_word, is_symbol, is_string, is_digits, word_token}
use Rattle.sql_parse.specs.Tokens.{symbol_token}
use Rattle.sql_parse.specs.Notation.{Condition, Of, a_word, a_symbol, word_for, ◌⊳◌}
use Rattle.sql_parse.specs.Notation.{◌⊲◌, maybe, listed, joined, is_one_of}
use Rattle.sql_parse.specs.Productions.{literal_words, operand, compare, negated}

-- a word that begins a literal
abbrev pub begins_literal : TokenKind → Bool
begins_literal k = list_any (λ row. is_word row.0 k) literal_words

-- what begins a factor
abbrev pub begins_factor : TokenKind → Bool
begins_factor = is_one_of
    (is_name ∷ is_symbol symbol.Plus ∷ is_symbol symbol.Minus ∷ is_digits ∷ is_string ∷
    is_word word.True ∷ is_word word.False ∷ begins_literal ∷ is_symbol symbol.LeftParenthesis
    ∷ is_word word.Not ∷ [])

-- a factor within a factor
abbrev pub inner : Of Condition
inner = again begins_factor

-- factor { AND factor }
unfoldable pub conj : Of Condition
conj = make (λ p. joined conjunction p.0 p.1) (both inner (many (a_word word.And ⊳ inner)))

-- conj { OR conj }
unfoldable pub pred : Of Condition
pred = make (λ p. joined disjunction p.0 p.1) (both conj (many (a_word word.Or ⊳ conj)))

-- operand compare operand
unfoldable pub comparison_of : Of Condition
comparison_of = make (λ p. comparing p.1.0 p.0 p.1.1) (both operand (both compare operand))

-- operand [NOT] BETWEEN operand AND operand
unfoldable pub range_of : Of Condition
range_of = make (λ p. between p.1.0 p.0 p.1.1.0 p.1.1.1)
    (both operand (both negated (a_word word.Between ⊳ both operand (a_word word.And ⊳ operand))))

-- operand [NOT] IN "(" operand { "," operand } ")"
unfoldable pub membership_of : Of Condition
membership_of = make (λ p. membership p.1.0 p.0 p.1.1)
    (both operand (both negated
    (a_word word.In ⊳ a_symbol symbol.LeftParenthesis ⊳ listed (a_symbol symbol.Comma) operand
    ⊲ a_symbol symbol.RightParenthesis)))

-- operand IS [NOT] NULL
unfoldable pub null_test_of : Of Condition
null_test_of =
    make (λ p. null_test p.1 p.0) (both operand (a_word word.Is ⊳ negated ⊲ a_word word.Null))

-- the four forms of a predicate without parentheses
unfoldable pub simple : Of Condition
simple = either comparison_of (either range_of (either membership_of null_test_of))

-- "(" pred ")" | simple
abbrev pub primary_of : Of Condition → Of Condition
primary_of forms = opened (is_symbol symbol.LeftParenthesis) (symbol_token symbol.LeftParenthesis)
    (pred ⊲ a_symbol symbol.RightParenthesis) forms

-- TRUE | FALSE | UNKNOWN
unfoldable pub truth_value : Of Truth
truth_value = either (word_for word.True truth.True)
    (either (word_for word.False truth.False) (word_for word.Unknown truth.Unknown))

-- a predicate, and the IS after it where there is one
abbrev pub tested : Condition → Option (Bool × Truth) → Condition
tested p None = p
tested p (Some test) = truth_test test.0 test.1 p

-- primary [ IS [NOT] (TRUE | FALSE | UNKNOWN) ]
abbrev pub test_of : Of Condition → Of Condition
test_of primary =
    make (λ p. tested p.0 p.1) (both primary (maybe (a_word word.Is ⊳ both negated truth_value)))

-- NOT factor | test
abbrev pub factor_of : Of Condition → Of Condition
factor_of test = opened (is_word word.Not) (word_token word.Not) (make negation inner) test

-- NOT factor | "(" pred ")" | simple, and an IS after the latter two
unfoldable pub factor : Of Condition
factor = factor_of (test_of (primary_of simple))
