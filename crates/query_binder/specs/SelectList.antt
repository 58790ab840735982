-- Inside: the list of a query, where its rows are made of groups and where they are not.
use Rattle.std.specs.Prelude.{ℕ, ◌==◌, ◌≤◌, List, length, Option, Some, None}
use Rattle.std.specs.List.{list_any}
use Rattle.arrow_types.specs.Schema.{IsField}
use Rattle.scan_base.specs.declared.fault.Fault.{Fault}
use Rattle.scan_base.specs.declared.fault.Fault.TheVariants.{TypeClash, NotInSubset}
use Rattle.sql_query.specs.declared.query.Expression.{Expression}
use Rattle.sql_query.specs.declared.query.Expression.TheVariants.{Column, CountRows, Count, Sum}
use Rattle.std.specs.Prelude.{All, slice_get}
use Rattle.typed_plan.specs.Faults.{must, found, fault_in}
use Rattle.query_binder.specs.NameClasses.{sums_at}
use Rattle.typed_plan.specs.Scope.{Scope, column_of}

-- an item of a list without aggregates: its name
abbrev pub column_fault : Scope → Expression → Option Fault
column_fault scope (Column name) = fault_in (column_of scope name)
column_fault scope _ = Some NotInSubset

-- an item over groups of this key: its name, then whether the column is one of the key, or has a
-- sum
abbrev pub aggregate_fault : Scope → List ℕ → Expression → Option Fault
aggregate_fault scope keys (Column name) =
    found (column_of scope name) (λ number. must (list_any (λ key. key == number) keys) NotInSubset)
aggregate_fault scope keys CountRows = None
aggregate_fault scope keys (Count name) = fault_in (column_of scope name)
aggregate_fault scope keys (Sum name) =
    found (column_of scope name) (λ number. must (sums_at (slice_get scope number)) TypeClash)

-- there is a column, and each can be written in a schema
abbrev pub CanBeWritten : Scope → Type 0
CanBeWritten scope = (1 ≤ length scope) × All (λ column. IsField column.field) scope
