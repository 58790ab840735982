-- What is chosen by numbers.
use Rattle.std.specs.Prelude.{ℕ, Bool, List, [], ◌∷◌, ◌++◌, nat_lt, Option, Some, None, slice_get}
use Rattle.std.specs.List.{list_all}
use Rattle.arrays.specs.Column.{ColumnAt}

-- whether so many things have these numbers
abbrev pub are_within : ℕ → List ℕ → Bool
are_within width numbers = list_all (λ number. nat_lt number width) numbers

-- a column as a list, which is empty where there is none
abbrev pub listed : Option ColumnAt → List ColumnAt
listed (Some column) = column ∷ []
listed None = []

-- the columns of these numbers, in the order of the numbers
abbrev pub columns_at : List ℕ → List ColumnAt → List ColumnAt
columns_at [] columns = []
columns_at (number ∷ numbers) columns =
    listed (slice_get columns number) ++ columns_at numbers columns
