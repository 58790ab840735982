-- TIMESTAMP and TIME, in any case, are words of the grammar where a string follows, and names
-- elsewhere.
use Rattle.std.specs.Prelude.{Bool, true, false, List, [], ◌∷◌, ℕ, codes, if◌then◌else◌, Result, Ok}
use Rattle.std.specs.Str.{str_eq_ignore_ascii_case}
use Rattle.scan_base.specs.declared.fault.Fault.{Fault}
use Rattle.scan_base.specs.Reading.{◌>>=◌}
use Rattle.sql_text.specs.declared.word.Keyword.TheVariants as word
use Rattle.sql_text.specs.declared.token.TokenKind.{TokenKind}
use Rattle.sql_text.specs.declared.token.TokenKind.TheVariants as kind
use Rattle.sql_text.specs.Standard.{Lexeme}
use Rattle.sql_text.specs.Reading.{tokens_in}

-- whether a string comes first
abbrev pub begins_with_string : List Lexeme → Bool
begins_with_string [] = false
begins_with_string (token ∷ more) = is_a_string token.kind
  where
    is_a_string : TokenKind → Bool
    is_a_string kind.String = true
    is_a_string other = false

-- what a name is before a string
abbrev pub kind_of_name : List ℕ → TokenKind
kind_of_name text =
    if str_eq_ignore_ascii_case text (codes "TIMESTAMP") then kind.Keyword word.Timestamp
    else (if str_eq_ignore_ascii_case text (codes "TIME") then kind.Keyword word.Time
    else kind.Name)

-- what a token is, where a string follows or not
abbrev pub kind_before : TokenKind → List ℕ → Bool → TokenKind
kind_before kind.Name text true = kind_of_name text
kind_before other text string = other

-- tokens, with the words of literals
abbrev pub with_words : List Lexeme → List Lexeme
with_words [] = []
with_words (token ∷ more) =
    record token { kind = kind_before token.kind token.text (begins_with_string more) }
    ∷ with_words more

-- the tokens of a query's text, with the words of literals
unfoldable pub worded_tokens_in : List ℕ → Result (List Lexeme) Fault
worded_tokens_in text = tokens_in text >>= λ tokens. Ok (with_words tokens)
