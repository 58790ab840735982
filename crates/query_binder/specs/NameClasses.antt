-- The classes of terms, whether columns have a sum, and the faults of WHERE.
use Rattle.std.specs.Prelude.{ℕ, Bool, false, slice_get, Option, Some, None, Result, Ok, Err}
use Rattle.scan_base.specs.declared.fault.Fault.{Fault}
use Rattle.scan_base.specs.Predicate.{Pred}
use Rattle.sql_query.specs.declared.query.ColumnName.{ColumnName}
use Rattle.sql_query.specs.declared.query.Term.{Term}
use Rattle.sql_query.specs.declared.query.Term.TheVariants as term
use Rattle.typed_plan.specs.declared.class.Class.{Class}
use Rattle.typed_plan.specs.declared.class.Class.TheVariants.{Number}
use Rattle.typed_plan.specs.Class.{type_class, literal_class, can_sum}
use Rattle.typed_plan.specs.Faults.{predicate_fault}
use Rattle.typed_plan.specs.Scope.{Scope, ScopeColumn, column_of}
use Rattle.typed_plan.specs.SettledLiterals.{settled}

-- the class of the column of a number
abbrev pub class_at : Option ScopeColumn → Class
class_at (Some column) = type_class column.field.data_type
class_at None = Number

-- whether SUM takes the values of the column of a number
abbrev pub sums_at : Option ScopeColumn → Bool
sums_at (Some column) = can_sum column.field.data_type
sums_at None = false

-- the class of the column that was looked up
abbrev pub class_of_column : Scope → Result ℕ Fault → Result Class Fault
class_of_column scope (Ok number) = Ok (class_at (slice_get scope number))
class_of_column scope (Err fault) = Err fault

-- the class of the column that a name means
abbrev pub class_of_name : Scope → ColumnName → Result Class Fault
class_of_name scope name = class_of_column scope (column_of scope name)

-- the class of a term
abbrev pub class_of_term : Scope → Term → Result Class Fault
class_of_term scope (term.Name name) = class_of_name scope name
class_of_term scope (term.Literal literal) = Ok (literal_class literal)

-- the fault of WHERE's predicate, where there is one, with its literals next to columns
abbrev pub filter_fault : Scope → Option (Pred Term) → Option Fault
filter_fault scope None = None
filter_fault scope (Some predicate) =
    predicate_fault (class_of_term scope) (settled scope predicate)
