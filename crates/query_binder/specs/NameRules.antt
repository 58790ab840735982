-- The rules of names and classes: why a query is refused, and the order in which it is looked at.
use Rattle.std.specs.Prelude.{ℕ, ◌==◌, Bool, not, ◌||◌, nat_lt, if◌then◌else◌, List, [], ◌∷◌, ◌++◌}
use Rattle.std.specs.Prelude.{length, map, slice_get, Option, None, is_some}
use Rattle.std.specs.List.{list_any}
use Rattle.std.specs.Str.{bytes_eq}
use Rattle.scan_base.specs.Limits.{most_columns}
use Rattle.scan_base.specs.declared.fault.Fault.{Fault}
use Rattle.scan_base.specs.declared.fault.Fault.TheVariants.{TableMissing, LimitReached}
use Rattle.scan_base.specs.declared.fault.Fault.TheVariants.{UnknownName, TypeClash}
use Rattle.scan_base.specs.declared.fault.Fault.TheVariants.{NotInSubset}
use Rattle.sql_query.specs.declared.query.Place.{Place}
use Rattle.sql_query.specs.declared.query.Equality.{Equality}
use Rattle.sql_query.specs.declared.query.Join.{Join}
use Rattle.sql_query.specs.declared.query.Expression.{Expression}
use Rattle.sql_query.specs.declared.query.Expression.TheVariants as expression
use Rattle.sql_query.specs.declared.query.Select.{Select}
use Rattle.sql_query.specs.declared.query.Select.TheVariants as select
use Rattle.sql_query.specs.Sentence.{Sentence, place_name, is_grouped, is_left_out_whole}
use Rattle.table_versions.specs.Table.{Name}
use Rattle.table_versions.specs.Database.{Database, table_at}
use Rattle.typed_plan.specs.Scope.{Scope, numbered, column_of}
use Rattle.typed_plan.specs.JoinedRows.{place_columns, scope_of}
use Rattle.typed_plan.specs.Faults.{◌then◌, must, found, first_in, fault_in, compare_fault}
use Rattle.query_binder.specs.NameClasses.{class_of_name, filter_fault, sums_at}

-- a place's table is there, and its name differs from the earlier ones
abbrev pub place_fault : Database → List Name → Place → Option Fault
place_fault database earlier place =
    must (is_some (table_at database place.table)) TableMissing
    then must (not (list_any (bytes_eq (place_name place)) earlier)) UnknownName

-- the places in their order, after places of these names
abbrev pub places_fault : Database → List Name → List Place → Option Fault
places_fault database earlier [] = None
places_fault database earlier (place ∷ places) =
    place_fault database earlier place
    then places_fault database (earlier ++ place_name place ∷ []) places

-- whether one column is of the new place, whose columns begin at this number, and one of an earlier
-- place
abbrev pub crosses : ℕ → ℕ → ℕ → Bool
crosses seam left right = if nat_lt left seam then not (nat_lt right seam) else nat_lt right seam

-- an equality of an ON: the names, the classes, and that it crosses
abbrev pub equality_fault : ℕ → Scope → Equality → Option Fault
equality_fault seam scope equality =
    compare_fault (class_of_name scope equality.left) (class_of_name scope equality.right)
    then must (crosses seam (numbered scope equality.left) (numbered scope equality.right))
    NotInSubset

-- each ON looks at the places up to its own
abbrev pub joins_fault : Database → Scope → List Join → Option Fault
joins_fault database scope [] = None
joins_fault database scope (join ∷ joins) =
    let wider = scope ++ place_columns database join.place in
    first_in (equality_fault (length scope) wider) join.on then joins_fault database wider joins

-- a column of a grouped query is one of GROUP BY, whose names mean columns
abbrev pub may_select : Sentence → Scope → ℕ → Bool
may_select query scope number =
    not (is_grouped query) || list_any (λ name. number == numbered scope name) query.group_by

-- an expression's name; then of a column whether the query may select it, and of a SUM whether it
-- takes its values
abbrev pub expression_fault : Sentence → Scope → Expression → Option Fault
expression_fault query scope (expression.Column name) =
    found (column_of scope name) (λ number. must (may_select query scope number) NotInSubset)
expression_fault query scope expression.CountRows = None
expression_fault query scope (expression.Count name) = fault_in (column_of scope name)
expression_fault query scope (expression.Sum name) =
    found (column_of scope name) (λ number. must (sums_at (slice_get scope number)) TypeClash)

-- a result has no more columns than a table
abbrev pub width_fault : ℕ → Option Fault
width_fault columns = must (not (nat_lt most_columns columns)) LimitReached

-- what is selected, and then how many columns it has
abbrev pub select_fault : Sentence → Scope → Select → Option Fault
select_fault query scope select.All = width_fault (length scope)
select_fault query scope (select.List items) =
    first_in (λ item. expression_fault query scope item.expression) items
    then width_fault (length items)

-- why a query is refused, by the rules
abbrev pub rules_fault : Sentence → Database → Option Fault
rules_fault query database =
    let scope = scope_of query database in
    places_fault database [] (query.first ∷ map (λ join. join.place) query.joins)
    then joins_fault database (place_columns database query.first) query.joins
    then filter_fault scope query.filter
    then first_in (λ name. fault_in (column_of scope name)) query.group_by
    then select_fault query scope query.select

-- why a query is refused: what is left out comes before the rules
abbrev pub fault_of : Sentence → Database → Option Fault
fault_of query database =
    must (not (is_left_out_whole query)) NotInSubset then rules_fault query database

-- what a query shows before any memory is taken: that it is left out, and then why a place of it is
-- refused
abbrev pub glance_of : Sentence → Database → Option Fault
glance_of query database =
    must (not (is_left_out_whole query)) NotInSubset
    then places_fault database [] (query.first ∷ map (λ join. join.place) query.joins)
