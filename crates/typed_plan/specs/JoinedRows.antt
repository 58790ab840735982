-- The rows of FROM and WHERE, in the order of nested loops.
use Rattle.std.specs.Prelude.{ℕ, ◌-◌, Bool, true, List, [], ◌∷◌, ◌++◌, map, take, drop, Option}
use Rattle.std.specs.Prelude.{Some, None}
use Rattle.std.specs.List.{list_all, filter, flat_map}
use Rattle.arrow_types.specs.declared.schema.Field.{Field}
use Rattle.scan_base.specs.declared.comparison.Comparison.TheVariants.{Equal}
use Rattle.scan_base.specs.Truth.{keeps}
use Rattle.scan_base.specs.Comparison.{compared}
use Rattle.scan_base.specs.Predicate.{Pred, truth_of}
use Rattle.sql_query.specs.declared.query.Term.{Term}
use Rattle.sql_query.specs.declared.query.Place.{Place}
use Rattle.sql_query.specs.declared.query.Join.{Join}
use Rattle.sql_query.specs.declared.query.Equality.{Equality}
use Rattle.sql_query.specs.Sentence.{Sentence, place_name}
use Rattle.table_versions.specs.Table.{Row, Table}
use Rattle.table_versions.specs.Database.{Database, table_at}
use Rattle.typed_plan.specs.Scope.{Scope, columns_in, named_cell, term_value}
use Rattle.typed_plan.specs.SettledLiterals.{settled}

-- the columns of a table, where it is there
abbrev pub fields_in : Option Table → List Field
fields_in None = []
fields_in (Some table) = table.schema.fields

-- the rows of a table, where it is there
abbrev pub rows_in : Option Table → List Row
rows_in None = []
rows_in (Some table) = table.rows

-- the columns of a place
abbrev pub place_columns : Database → Place → Scope
place_columns database place =
    columns_in (place_name place) (fields_in (table_at database place.table))

-- the rows of a place
abbrev pub place_rows : Database → Place → List Row
place_rows database place = rows_in (table_at database place.table)

-- the columns of the places so far and of these joins
abbrev pub scope_after : Database → Scope → List Join → Scope
scope_after database scope [] = scope
scope_after database scope (join ∷ joins) =
    scope_after database (scope ++ place_columns database join.place) joins

-- the columns of all places
abbrev pub scope_of : Sentence → Database → Scope
scope_of query database = scope_after database (place_columns database query.first) query.joins

-- whether each equality of an ON is true
abbrev pub fits_on : Scope → List Equality → Row → Bool
fits_on scope on row =
    list_all
    (λ equality.
    keeps
    (compared Equal (named_cell scope row equality.left)
    (named_cell scope row equality.right))) on

-- a row with each row of the new place that fits it, in the order of the table
abbrev pub extensions : Scope → List Equality → List Row → Row → List Row
extensions scope on new_rows row = filter (fits_on scope on) (map (λ new. row ++ new) new_rows)

-- each row in turn makes way for its extensions, place after place
abbrev pub rows_after : Database → Scope → List Join → List Row → List Row
rows_after database scope [] rows = rows
rows_after database scope (join ∷ joins) rows =
    let wider = scope ++ place_columns database join.place in
    rows_after database wider joins
    (flat_map (extensions wider join.on (place_rows database join.place)) rows)

-- the rows a up to, not with, b
abbrev pub rows_between : ℕ → ℕ → List Row → List Row
rows_between a b rows = take (b - a) (drop a rows)

-- the joined rows of a range of the first place; each other place has all its rows
abbrev pub from_rows : Sentence → Database → ℕ → ℕ → List Row
from_rows query database a b =
    rows_after database (place_columns database query.first) query.joins
    (rows_between a b (place_rows database query.first))

-- whether WHERE is true, with its literals next to columns
abbrev pub meets_where : Scope → Option (Pred Term) → Row → Bool
meets_where scope None row = true
meets_where scope (Some predicate) row =
    keeps (truth_of (term_value scope row) (settled scope predicate))

-- the joined rows for which WHERE is true, in order
abbrev pub kept_rows : Sentence → Database → ℕ → ℕ → List Row
kept_rows query database a b =
    filter (meets_where (scope_of query database) query.filter) (from_rows query database a b)
