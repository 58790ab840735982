-- The columns that the names of a query may stand for, and what its terms are.
use Rattle.std.specs.Prelude.{ℕ, ◌+◌, Bool, true, ◌&&◌, if◌then◌else◌, List, [], ◌∷◌, map, Option}
use Rattle.std.specs.Prelude.{Some, None, Result}
use Rattle.std.specs.Prelude.{Ok, Err}
use Rattle.std.specs.Str.{bytes_eq}
use Rattle.arrow_types.specs.declared.schema.Field.{Field}
use Rattle.scan_base.specs.declared.fault.Fault.{Fault}
use Rattle.scan_base.specs.declared.fault.Fault.TheVariants.{UnknownName}
use Rattle.scan_base.specs.declared.predicate.Operand.{Operand}
use Rattle.scan_base.specs.declared.predicate.Operand.TheVariants.{Column, Literal}
use Rattle.scan_base.specs.declared.value.Value.{Value}
use Rattle.scan_base.specs.Predicate.{cell_in, operand_value}
use Rattle.sql_query.specs.declared.query.ColumnName.{ColumnName}
use Rattle.sql_query.specs.declared.query.Term.{Term}
use Rattle.sql_query.specs.declared.query.Term.TheVariants as term
use Rattle.table_versions.specs.Table.{Name, Row}
use Rattle.typed_plan.specs.Class.{literal_value}

-- a column of a place, with the name that the place goes by
pub record ScopeColumn : Type 0 where
  pub place : Name
  pub field : Field

-- the columns of a joined row, in order
abbrev pub Scope : Type 0
Scope = List ScopeColumn

-- the columns of one place
abbrev pub columns_in : Name → List Field → Scope
columns_in place fields = map (λ field. record { place = place; field = field }) fields

-- whether a name may mean a column of this place; without a place it may mean one of any
abbrev pub fits_place : Option Name → Name → Bool
fits_place None place = true
fits_place (Some named) place = bytes_eq named place

-- whether a name stands for a column
abbrev pub stands_for : ColumnName → ScopeColumn → Bool
stands_for name column = fits_place name.place column.place && bytes_eq name.name column.field.name

-- the numbers of the columns that a name stands for, where the first column has this number
abbrev pub named_numbers : ℕ → ColumnName → Scope → List ℕ
named_numbers number name [] = []
named_numbers number name (column ∷ columns) =
    if stands_for name column then number ∷ named_numbers (number + 1) name columns
    else named_numbers (number + 1) name columns

-- there is one, and only one
abbrev pub the_only : List ℕ → Result ℕ Fault
the_only (number ∷ []) = Ok number
the_only _ = Err UnknownName

-- the number of the column that a name means, counted from 0; one that means none, or several, is a
-- fault
abbrev pub column_of : Scope → ColumnName → Result ℕ Fault
column_of scope name = the_only (named_numbers 0 name scope)

-- the number of the column, where there is no fault
abbrev pub number_in : Result ℕ Fault → ℕ
number_in (Ok number) = number
number_in (Err fault) = 0

-- the number of the column that a name means
abbrev pub numbered : Scope → ColumnName → ℕ
numbered scope name = number_in (column_of scope name)

-- a row's value in the column that a name means; a query with a name that means none is refused
-- before
abbrev pub named_cell : Scope → Row → ColumnName → Value
named_cell scope row name = cell_in row (numbered scope name)

-- what a term is over numbers of columns: the column that a name means, or the value of a literal
abbrev pub term_operand : Scope → Term → Operand ℕ
term_operand scope (term.Name name) = Column (numbered scope name)
term_operand scope (term.Literal literal) = Literal (literal_value literal)

-- the value of a term in a row
abbrev pub term_value : Scope → Row → Term → Value
term_value scope row written = operand_value (cell_in row) (term_operand scope written)
