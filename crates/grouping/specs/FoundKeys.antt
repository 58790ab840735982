-- Keys of rows by first appearance, and the rows that belong to each.
use Rattle.std.specs.Prelude.{ℕ, ◌==◌, List, [], ◌∷◌, map}
use Rattle.std.specs.List.{filter, fold, position_or_len}
use Rattle.indexmap.specs.IndexSet.{insert_key}
use Rattle.scan_base.specs.declared.value.Value.{Value}
use Rattle.scan_base.specs.Predicate.{cell_in}
use Rattle.table_versions.specs.Table.{Row}
use Rattle.typed_plan.specs.GroupedRows.{same_key}

-- a row's values in these columns
abbrev pub key_in : List ℕ → Row → List Value
key_in keys row = map (cell_in row) keys

-- the keys before any row: without columns there is one group, also of no rows
abbrev pub first_found : List ℕ → List (List Value)
first_found [] = [] ∷ []
first_found (key ∷ keys) = []

-- keys that were found, and then those of more rows that are new
abbrev pub found_then : List ℕ → List (List Value) → List Row → List (List Value)
found_then keys found rows = fold (insert_key same_key) found (map (key_in keys) rows)

-- the keys of rows, by first appearance
abbrev pub found_in : List ℕ → List Row → List (List Value)
found_in keys rows = found_then keys (first_found keys) rows

-- the place of a key among those that were found
abbrev pub place_in : List (List Value) → List Value → ℕ
place_in found key = position_or_len (same_key key) found

-- the rows of the group at a place
abbrev pub share : List ℕ → List (List Value) → List Row → ℕ → List Row
share keys found rows place = filter (λ row. place_in found (key_in keys row) == place) rows
