-- The kinds of tokens that there are, and those that may follow a factor.
use Rattle.std.specs.Prelude.{Bool, List, [], ◌∷◌}
use Rattle.sql_text.specs.declared.word.Keyword.TheVariants as word
use Rattle.sql_text.specs.declared.symbol.Symbol.TheVariants as symbol
use Rattle.sql_text.specs.declared.token.TokenKind.{TokenKind}
use Rattle.sql_text.specs.declared.token.TokenKind.TheVariants as kind
use Rattle.sql_parse.specs.Tokens.{is_word, is_symbol}
use Rattle.sql_parse.specs.Notation.{is_one_of}

-- every kind
abbrev pub kinds : List TokenKind
kinds =
    kind.Keyword word.Select ∷ kind.Keyword word.From ∷ kind.Keyword word.Where ∷ kind.Keyword word.Inner ∷
    kind.Keyword word.Join ∷ kind.Keyword word.On ∷ kind.Keyword word.And ∷ kind.Keyword word.Or ∷
    kind.Keyword word.Not ∷ kind.Keyword word.Is ∷ kind.Keyword word.Null ∷ kind.Keyword word.True ∷
    kind.Keyword word.False ∷ kind.Keyword word.Unknown ∷ kind.Keyword word.In ∷ kind.Keyword word.Between ∷
    kind.Keyword word.Group ∷ kind.Keyword word.By ∷ kind.Keyword word.As ∷ kind.Keyword word.Count ∷
    kind.Keyword word.Sum ∷ kind.Keyword word.Date ∷
    kind.LeftOut ∷ kind.Name ∷ kind.DelimitedName ∷ kind.String ∷ kind.Digits ∷
    kind.Symbol symbol.LeftParenthesis ∷ kind.Symbol symbol.RightParenthesis ∷ kind.Symbol symbol.Comma ∷
    kind.Symbol symbol.Period ∷ kind.Symbol symbol.Semicolon ∷ kind.Symbol symbol.Asterisk ∷
    kind.Symbol symbol.Equal ∷ kind.Symbol symbol.NotEqual ∷ kind.Symbol symbol.Less ∷
    kind.Symbol symbol.LessOrEqual ∷ kind.Symbol symbol.Greater ∷ kind.Symbol symbol.GreaterOrEqual ∷
    kind.Symbol symbol.Plus ∷ kind.Symbol symbol.Minus ∷ kind.Symbol symbol.Solidus ∷
    kind.Symbol symbol.Percent ∷ kind.Symbol symbol.Concatenation ∷ kind.Keyword word.Timestamp ∷ kind.Keyword word.Time ∷ []

-- what may follow a factor
abbrev pub follows_factor : TokenKind → Bool
follows_factor = is_one_of
    (is_word word.And ∷ is_word word.Or ∷ is_symbol symbol.RightParenthesis ∷ is_word word.Group ∷
    is_symbol symbol.Semicolon ∷ [])
