-- How the symbols are written.
use Rattle.std.specs.Prelude.{if◌then◌else◌, ℕ, Option, Some, None, List, [], ◌∷◌, codes}
use Rattle.std.specs.Str.{bytes_eq}
use Rattle.sql_text.specs.declared.symbol.Symbol.{Symbol}
use Rattle.sql_text.specs.declared.symbol.Symbol.TheVariants as symbol

-- how the symbols are written
abbrev pub symbols : List (List ℕ × Symbol)
symbols =
    (codes "(", symbol.LeftParenthesis) ∷ (codes ")", symbol.RightParenthesis) ∷
    (codes ",", symbol.Comma) ∷ (codes ".", symbol.Period) ∷ (codes ";", symbol.Semicolon) ∷
    (codes "*", symbol.Asterisk) ∷ (codes "=", symbol.Equal) ∷ (codes "<>", symbol.NotEqual) ∷
    (codes "!=", symbol.NotEqual) ∷ (codes "<", symbol.Less) ∷ (codes "<=", symbol.LessOrEqual) ∷
    (codes ">", symbol.Greater) ∷ (codes ">=", symbol.GreaterOrEqual) ∷ (codes "+", symbol.Plus) ∷
    (codes "-", symbol.Minus) ∷ (codes "/", symbol.Solidus) ∷ (codes "%", symbol.Percent) ∷
    (codes "||", symbol.Concatenation) ∷ []

-- the symbol that is written so
abbrev pub symbol_in : List (List ℕ × Symbol) → List ℕ → Option Symbol
symbol_in [] bytes = None
symbol_in (row ∷ rows) bytes = if bytes_eq bytes row.0 then Some row.1 else symbol_in rows bytes
