-- Inside: packed numbers by their bits: the code of a number is what its bits are as a number
-- without a sign.
use Rattle.std.specs.Prelude.{ℕ, ◌==◌, Bool, false, List, Option, Some, None}
use Rattle.std.specs.List.{list_any}
use Rattle.arrow_types.specs.declared.data_type.IntegerType.{IntegerType}
use Rattle.arrays.specs.Number.{byte_width, element_at}

-- the code of element `place`
abbrev pub code_at : IntegerType → List ℕ → ℕ → ℕ
code_at integer values place = element_at (byte_width integer) values place

-- whether a code is one of some
abbrev pub is_among : List ℕ → ℕ → Bool
is_among codes code = list_any (λ other. other == code) codes

-- whether a code is the one that may be given
abbrev pub is_code : Option ℕ → ℕ → Bool
is_code None code = false
is_code (Some other) code = code == other
