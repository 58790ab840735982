-- The grammar, where the forms of a predicate that begin with an operand share it, so that one
-- token is enough to choose by. A law says that it spells the same sentences; the standard's own
-- words do without it.
use Rattle.std.specs.Prelude.{Bool, true, false}
use Rattle.scan_base.specs.declared.predicate.Operand.{Operand}
use Rattle.scan_base.specs.Predicate.{comparing, between, membership, null_test}
use Rattle.sql_text.specs.declared.word.Keyword.TheVariants as word
use Rattle.sql_text.specs.declared.symbol.Symbol.TheVariants as symbol
use Rattle.grammar.specs.Rule.{both, either, make}
use Rattle.sql_query.specs.declared.query.Term.{Term}
use Rattle.sql_parse.specs.Productions.{operand, compare, negated}
use Rattle.sql_parse.specs.Notation.{Condition, Of, a_word, a_symbol, ◌⊳◌, ◌⊲◌, listed}
use Rattle.sql_parse.specs.PredicateProductions.{primary_of, test_of, factor_of}

-- one side of a comparison
abbrev pub Value : Type 0
Value = Operand Term

-- after an operand: a comparison, BETWEEN, IN, or IS NULL
unfoldable pub compared : Of (Value → Condition)
compared = make (λ p a. comparing p.0 a p.1) (both compare operand)

unfoldable pub nulled : Of (Value → Condition)
nulled = a_word word.Is ⊳ make (λ n a. null_test n a) negated ⊲ a_word word.Null

unfoldable pub ranged : Of (Bool → Value → Condition)
ranged = a_word word.Between
    ⊳ make (λ p n a. between n a p.0 p.1) (both operand (a_word word.And ⊳ operand))

unfoldable pub among : Of (Bool → Value → Condition)
among = a_word word.In ⊳ a_symbol symbol.LeftParenthesis
    ⊳ make (λ items n a. membership n a items) (listed (a_symbol symbol.Comma) operand)
    ⊲ a_symbol symbol.RightParenthesis

-- what follows an operand
unfoldable pub tail : Of (Value → Condition)
tail = either nulled (either (make (λ f. f true) (a_word word.Not ⊳ either ranged among))
    (either (make (λ f. f false) ranged) (either (make (λ f. f false) among) compared)))

-- a predicate that begins with an operand
unfoldable pub forms : Of Condition
forms = make (λ p. p.1 p.0) (both operand tail)

-- the levels above, over those
unfoldable pub primary : Of Condition
primary = primary_of forms

unfoldable pub test : Of Condition
test = test_of primary

unfoldable pub factor_by_operand : Of Condition
factor_by_operand = factor_of test
