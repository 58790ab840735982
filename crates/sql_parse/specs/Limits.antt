-- The limits of number and of names.
use Rattle.std.specs.Prelude.{ℕ, ◌+◌, Bool, false, ◌&&◌, ◌||◌, if◌then◌else◌, nat_lt, List, [], ◌∷◌}
use Rattle.std.specs.Prelude.{length}
use Rattle.std.specs.Prelude.{◌≡◌, ◌<◌, true, take, Option, Some, None}
use Rattle.scan_base.specs.Limits.{most_places, most_items, most_members, most_name_bytes}
use Rattle.sql_text.specs.declared.word.Keyword.TheVariants as word
use Rattle.sql_text.specs.declared.symbol.Symbol.TheVariants as symbol
use Rattle.sql_text.specs.declared.token.TokenKind.{TokenKind}
use Rattle.sql_text.specs.Words.{is_name}
use Rattle.sql_parse.specs.Tokens.{Mark, is_word, is_symbol}
use Rattle.sql_text.specs.Calls.{said}

-- What the tokens so far announce: places, and items of the list that was begun last, of which
-- there may be `most`.
pub record TallyAt : Type 0 where
  pub places : ℕ
  pub items : ℕ
  pub most : ℕ

-- What is announced with the next token. FROM and JOIN announce a place; SELECT, BY and IN begin a
-- list and announce its first item, and a comma the next one.
unfoldable pub counted : TallyAt → TokenKind → TallyAt
counted tally kind =
    if is_word word.From kind || is_word word.Join kind
    then record tally { places = tally.places + 1 }
    else (if is_word word.Select kind || is_word word.By kind
    then record tally { items = 1; most = most_items }
    else (if is_word word.In kind then record tally { items = 1; most = most_members }
    else (if is_symbol symbol.Comma kind then record tally { items = tally.items + 1 }
    else tally)))

-- the place or the item that was announced last is one too many
unfoldable pub is_past : TallyAt → Bool
is_past tally = nat_lt most_places tally.places || nat_lt tally.most tally.items

-- a name of too many bytes
unfoldable pub is_long_name : TokenKind → List ℕ → Bool
is_long_name kind text = is_name kind && nat_lt most_name_bytes (length (said kind text))

-- whether one of the tokens passes a limit, where those before announced so much
abbrev pub passes_from : TallyAt → List Mark → Bool
passes_from tally [] = false
passes_from tally (t ∷ ts) =
    (is_long_name t.0 t.1.1 || is_past tally) || passes_from (counted tally t.0) ts

-- Whether one of the tokens passes a limit: it is a name of too many bytes, or stands in a place or
-- an item that is one too many.
unfoldable pub passes : List Mark → Bool
passes ts = passes_from (record { places = 0; items = 0; most = most_items }) ts

-- the token at `at` is the first that passes a limit, or none does
abbrev pub IsFirstPast : Option ℕ → List Mark → Type 0
IsFirstPast None ts = passes ts ≡ false
IsFirstPast (Some at) ts =
    (at < length ts) × (passes (take at ts) ≡ false) × (passes (take (at + 1) ts) ≡ true)
