-- Tokens as the grammar sees them: a kind, and where the token begins with its bytes.
use Rattle.std.specs.Prelude.{ℕ, Bool, true, false, List, [], map, codes, Option, ℤ}
use denote.Enum.Bare.{sameb}
use Rattle.sql_text.specs.contracts.word.Keyword.{the_type as keyword_type}
use Rattle.sql_text.specs.contracts.symbol.Symbol.{the_type as symbol_type}
use Rattle.sql_text.specs.declared.word.Keyword.{Keyword}
use Rattle.sql_text.specs.declared.symbol.Symbol.{Symbol}
use Rattle.sql_text.specs.declared.token.TokenKind.{TokenKind}
use Rattle.sql_text.specs.declared.token.TokenKind.TheVariants as kind
use Rattle.sql_text.specs.declared.token.Token.{Token}
use Rattle.sql_text.specs.Standard.{Lexeme}
use Rattle.sql_text.specs.Calls.{said, numeral}

-- where a token begins, and its bytes
abbrev pub Span : Type 0
Span = ℕ × List ℕ

-- a token: its kind, where it begins, and its bytes
abbrev pub Mark : Type 0
Mark = TokenKind × Span

-- the same of a token of the standard
abbrev pub mark_of : Lexeme → Mark
mark_of lexeme = (lexeme.kind, (lexeme.start, lexeme.text))

-- the same of a token of the code
abbrev pub mark : Token → Mark
mark token = (token.kind, (token.start, token.text.now))

-- tokens of the code, in their order
abbrev pub marks : List Token → List Mark
marks tokens = map mark tokens

-- ---- kinds

-- two words are one
unfoldable pub same_word : Keyword → Keyword → Bool
same_word = sameb keyword_type

-- two symbols are one
unfoldable pub same_symbol : Symbol → Symbol → Bool
same_symbol = sameb symbol_type

-- the kind is this word
abbrev pub is_word : Keyword → TokenKind → Bool
is_word word (kind.Keyword other) = same_word word other
is_word word _ = false

-- the kind is this symbol
abbrev pub is_symbol : Symbol → TokenKind → Bool
is_symbol symbol (kind.Symbol other) = same_symbol symbol other
is_symbol symbol _ = false

-- the kind is a text in single quotes
abbrev pub is_string : TokenKind → Bool
is_string kind.String = true
is_string _ = false

-- the kind is digits
abbrev pub is_digits : TokenKind → Bool
is_digits kind.Digits = true
is_digits _ = false

-- ---- values

-- what a token says: a name, or the text of a string
abbrev pub value_of : Mark → List ℕ
value_of token = said token.0 token.1.1

-- the number that digits say
abbrev pub number_in : Mark → Option ℤ
number_in token = numeral token.0 token.1.1

-- a token that is this word; where grammars name a token, it shows that there is one
abbrev pub word_token : Keyword → Mark
word_token word = (kind.Keyword word, (0, []))

-- a token that is this symbol
abbrev pub symbol_token : Symbol → Mark
symbol_token symbol = (kind.Symbol symbol, (0, []))

-- a token that is a name
abbrev pub name_token : Mark
name_token = (kind.Name, (0, codes "a"))

-- a token that is this text in single quotes
abbrev pub string_token : List ℕ → Mark
string_token text = (kind.String, (0, text))

-- a token that is digits
abbrev pub digits_token : Mark
digits_token = (kind.Digits, (0, codes "0"))
