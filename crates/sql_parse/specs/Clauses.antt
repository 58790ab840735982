-- The grammar of the clauses of a query, production by production.
use Rattle.std.specs.Prelude.{ℕ, List, [], Option}
use Rattle.sql_text.specs.declared.word.Keyword.TheVariants as word
use Rattle.sql_text.specs.declared.symbol.Symbol.TheVariants as symbol
use Rattle.grammar.specs.Rule.{empty, both, either, many, make}
use Rattle.sql_query.specs.declared.query.ColumnName.{ColumnName}
use Rattle.sql_query.specs.declared.query.Expression.{Expression}
use Rattle.sql_query.specs.declared.query.Expression.TheVariants as expression
use Rattle.sql_query.specs.declared.query.SelectItem.{SelectItem}
use Rattle.sql_query.specs.declared.query.Select.{Select}
use Rattle.sql_query.specs.declared.query.Select.TheVariants as select
use Rattle.sql_query.specs.declared.query.Place.{Place}
use Rattle.sql_query.specs.declared.query.Equality.{Equality}
use Rattle.sql_query.specs.declared.query.Join.{Join}
use Rattle.sql_query.specs.Sentence.{Sentence}
use Rattle.sql_parse.specs.Notation.{Condition, Of, a_word, a_symbol, symbol_for, ◌⊳◌, ◌⊲◌, maybe}
use Rattle.sql_parse.specs.Notation.{listed}
use Rattle.sql_parse.specs.Productions.{name, column}
use Rattle.sql_parse.specs.PredicateProductions.{pred}

-- [ [AS] name ]
unfoldable pub alias : Of (Option (List ℕ))
alias = maybe (maybe (a_word word.As) ⊳ name)

-- column | COUNT "(" ("*" | column) ")" | SUM "(" column ")"
unfoldable pub selection : Of Expression
selection = either
    (a_word word.Count ⊳ a_symbol symbol.LeftParenthesis
    ⊳ either (symbol_for symbol.Asterisk expression.CountRows) (make expression.Count column)
    ⊲ a_symbol symbol.RightParenthesis)
    (either
    (a_word word.Sum ⊳ a_symbol symbol.LeftParenthesis ⊳ make expression.Sum column
    ⊲ a_symbol symbol.RightParenthesis)
    (make expression.Column column))

-- selection [ [AS] name ]
unfoldable pub item : Of SelectItem
item = make (λ p. record { expression = p.0; alias = p.1 }) (both selection alias)

-- "*" | item { "," item }
unfoldable pub list : Of Select
list = either (symbol_for symbol.Asterisk select.All)
    (make select.List (listed (a_symbol symbol.Comma) item))

-- name [ [AS] name ]
unfoldable pub place : Of Place
place = make (λ p. record { table = p.0; alias = p.1 }) (both name alias)

-- column "=" column
unfoldable pub equal : Of Equality
equal =
    make (λ p. record { left = p.0; right = p.1 }) (both column (a_symbol symbol.Equal ⊳ column))

-- [INNER] JOIN place ON equal { AND equal }
unfoldable pub join : Of Join
join = make (λ p. record { place = p.0; on = p.1 })
    (maybe (a_word word.Inner) ⊳ a_word word.Join
    ⊳ both place (a_word word.On ⊳ listed (a_word word.And) equal))

-- [ GROUP BY column { "," column } ]
unfoldable pub group : Of (List ColumnName)
group =
    either (a_word word.Group ⊳ a_word word.By ⊳ listed (a_symbol symbol.Comma) column) (empty [])

-- [ WHERE pred ]
unfoldable pub filter : Of (Option Condition)
filter = maybe (a_word word.Where ⊳ pred)

-- FROM place { join }
unfoldable pub source : Of (Place × List Join)
source = a_word word.From ⊳ both place (many join)

-- [ WHERE pred ] [ GROUP BY column { "," column } ] [ ";" ]
unfoldable pub ending : Of (Option Condition × List ColumnName)
ending = both filter (group ⊲ maybe (a_symbol symbol.Semicolon))

-- SELECT list FROM place { join } [ WHERE pred ] [ GROUP BY column { "," column } ] [ ";" ]
unfoldable pub query : Of Sentence
query = make (λ p.
    record { select = p.0; first = p.1.0.0; joins = p.1.0.1; filter = p.1.1.0; group_by = p.1.1.1 })
    (both (a_word word.Select ⊳ list) (both source ending))
