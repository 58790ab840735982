-- What a query has that this server leaves out, by its tokens.
use Rattle.std.specs.Prelude.{ℕ, Bool, true, false, not, ◌++◌, List, [], ◌∷◌, Option, Some, None}
use Rattle.std.specs.Prelude.{Result, Ok, Err, codes, if◌then◌else◌}
use Rattle.std.specs.List.{list_any}
use Rattle.scan_base.specs.declared.fault.Fault.{Fault}
use Rattle.sql_text.specs.declared.symbol.Symbol.TheVariants as symbol
use Rattle.sql_text.specs.declared.word.Keyword.TheVariants as word
use Rattle.sql_text.specs.declared.token.TokenKind.{TokenKind}
use Rattle.sql_text.specs.declared.token.TokenKind.TheVariants as kind
use Rattle.sql_text.specs.Standard.{Lexeme}
use Rattle.sql_text.specs.Reading.{tokens_in}
use Rattle.fault_hints.specs.MarkedLines.{marked}

-- ---- the first token that is left out

-- whether a value ends with a token, so that a sign after it is an operator
abbrev pub ends_value : TokenKind → Bool
ends_value kind.Name = true
ends_value kind.DelimitedName = true
ends_value kind.String = true
ends_value kind.Digits = true
ends_value (kind.Symbol symbol.RightParenthesis) = true
ends_value _ = false

-- whether `*` may stand after a token
abbrev pub opens_all : TokenKind → Bool
opens_all (kind.Keyword word.Select) = true
opens_all (kind.Symbol symbol.LeftParenthesis) = true
opens_all _ = false

-- whether NULL may stand after a token
abbrev pub opens_null : TokenKind → Bool
opens_null (kind.Keyword word.Is) = true
opens_null (kind.Keyword word.Not) = true
opens_null _ = false

-- whether a token is a string, before which DATE may stand
abbrev pub is_string : TokenKind → Bool
is_string kind.String = true
is_string _ = false

-- the kind of the first of these tokens, and `;` where there is none
abbrev pub kind_at_front : List Lexeme → TokenKind
kind_at_front [] = kind.Symbol symbol.Semicolon
kind_at_front (token ∷ tokens) = token.kind

-- whether a token is left out between a token before it and one after it
abbrev pub is_left_out_between : TokenKind → TokenKind → TokenKind → Bool
is_left_out_between before kind.LeftOut after = true
is_left_out_between before (kind.Symbol symbol.Solidus) after = true
is_left_out_between before (kind.Symbol symbol.Percent) after = true
is_left_out_between before (kind.Symbol symbol.Concatenation) after = true
is_left_out_between before (kind.Symbol symbol.Plus) after = ends_value before
is_left_out_between before (kind.Symbol symbol.Minus) after = ends_value before
is_left_out_between before (kind.Symbol symbol.Asterisk) after = not (opens_all before)
is_left_out_between before (kind.Keyword word.Null) after = not (opens_null before)
is_left_out_between before (kind.Keyword word.Date) after = not (is_string after)
is_left_out_between before _ after = false

-- the first of these tokens that is left out, where a token of a kind stands before them
abbrev pub first_left_out : TokenKind → List Lexeme → Option Lexeme
first_left_out before [] = None
first_left_out before (token ∷ tokens) =
    if is_left_out_between before token.kind (kind_at_front tokens) then Some token
    else first_left_out token.kind tokens

-- ---- what a query without such a token breaks

-- whether a token makes groups
abbrev pub makes_groups : TokenKind → Bool
makes_groups (kind.Keyword word.Group) = true
makes_groups (kind.Keyword word.Count) = true
makes_groups (kind.Keyword word.Sum) = true
makes_groups _ = false

-- whether a token is JOIN
abbrev pub joins : TokenKind → Bool
joins (kind.Keyword word.Join) = true
joins _ = false

-- the rule that a whole query breaks
abbrev pub broken_rule : Bool → Bool → List ℕ
broken_rule true true = codes "a query with JOIN has no GROUP BY, COUNT or SUM\n"
broken_rule true false =
    codes "with groups or aggregates, select only columns of GROUP BY, and no *\n"
broken_rule false other = codes "ON compares a column of its table with one of an earlier table\n"

-- ---- the lines

-- whether a token is a word, which between double quotes is a name
abbrev pub is_word : TokenKind → Bool
is_word kind.LeftOut = true
is_word (kind.Keyword word) = true
is_word _ = false

-- what is said of a token that is left out
abbrev pub token_line : TokenKind → List ℕ → List ℕ
token_line kind text =
    if is_word kind then
    codes "left out: " ++ (text ++ (codes "; as a name: \"" ++ (text ++ codes "\"\n")))
    else codes "left out: " ++ (text ++ codes "\n")

-- the token that is left out, or the rule that is broken
abbrev pub lines_for : List ℕ → List Lexeme → Option Lexeme → List ℕ
lines_for sql tokens (Some token) = marked sql token.start ++ token_line token.kind token.text
lines_for sql tokens None =
    broken_rule (list_any (λ (token : Lexeme). makes_groups token.kind) tokens)
    (list_any (λ (token : Lexeme). joins token.kind) tokens)

-- the lines for tokens
abbrev pub left_out_in : List ℕ → Result (List Lexeme) Fault → List ℕ
left_out_in sql (Ok tokens) =
    lines_for sql tokens (first_left_out (kind.Symbol symbol.Semicolon) tokens)
left_out_in sql (Err fault) = []

-- what is said of a query that this server leaves out
abbrev pub left_out_lines : List ℕ → List ℕ
left_out_lines sql = left_out_in sql (tokens_in sql)
