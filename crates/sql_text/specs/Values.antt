-- What tokens say: the value of digits, and what stands between quotes.
use Rattle.std.specs.Prelude.{ℕ, ◌==◌, ◌^◌, Bool, nat_lt, List, [], ◌∷◌, ◌++◌, flat_map}
use Rattle.std.specs.Prelude.{if◌then◌else◌}
use Rattle.std.specs.Prelude.{nat_le, ◌+◌, ◌-◌, slice_index, slice_range, ℤ, pos, length, not, ◌&&◌}
use Rattle.std.specs.Prelude.{Option, Some, None}
use Rattle.std.specs.Char.{is_ascii_digit}
use Rattle.std.specs.List.{list_all}
use Rattle.std.specs.Str.Parse.{digits_value}

-- a byte between quotes: the quote itself is written twice
abbrev pub doubled : ℕ → ℕ → List ℕ
doubled quote b = if b == quote then quote ∷ quote ∷ [] else b ∷ []

-- a value after an opening quote
abbrev pub opened : ℕ → List ℕ → List ℕ
opened quote value = quote ∷ flat_map (doubled quote) value

-- a value between two quotes
abbrev pub quoted : ℕ → List ℕ → List ℕ
quoted quote value = opened quote value ++ quote ∷ []

-- digits whose value a literal may have
abbrev pub is_small : List ℕ → Bool
is_small digits = nat_lt (digits_value 10 digits) (10 ^ 38)

-- bytes that are digits alone
abbrev pub are_digits : List ℕ → Bool
are_digits bytes = list_all is_ascii_digit bytes && not (length bytes == 0)

-- the value that bytes say as a literal of digits
unfoldable pub number_of : List ℕ → Option ℤ
number_of bytes =
    if are_digits bytes && is_small bytes then Some (pos (digits_value 10 bytes)) else None

-- what stands between two quotes, where a text has them at its ends, and else the text
abbrev pub inside : ℕ → List ℕ → List ℕ
inside quote text =
    if nat_le 2 (length text)
    && ((slice_index text 0 == quote) && (slice_index text (length text - 1) == quote))
    then slice_range text 1 (length text - 1) else text

-- each pair of quotes is one quote
abbrev pub undoubled : ℕ → List ℕ → List ℕ
undoubled quote [] = []
undoubled quote (b ∷ []) = b ∷ []
undoubled quote (b ∷ c ∷ bytes) =
    if (b == quote) && (c == quote) then quote ∷ undoubled quote bytes
    else b ∷ undoubled quote (c ∷ bytes)

-- the value that is written between quotes
unfoldable pub unquoted : ℕ → List ℕ → List ℕ
unquoted quote text = undoubled quote (inside quote text)

-- where the first pair of quotes begins, where `at` bytes stand before these
abbrev pub pair_at : ℕ → ℕ → List ℕ → Option ℕ
pair_at quote at [] = None
pair_at quote at (b ∷ []) = None
pair_at quote at (b ∷ c ∷ bytes) =
    if (b == quote) && (c == quote) then Some at else pair_at quote (at + 1) (c ∷ bytes)
