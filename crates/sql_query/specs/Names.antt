-- What the names of a query are where it was parsed.
use Rattle.scan_base.specs.Limits.{most_name_bytes}
use Rattle.std.specs.Prelude.{ℕ, ◌≤◌, List, length, IfSome, All, IsUtf8}
use Rattle.scan_base.specs.declared.predicate.Operand.{Operand}
use Rattle.scan_base.specs.declared.predicate.Operand.TheVariants as operand
use Rattle.scan_base.specs.Predicate.{Pred, conjunction, disjunction, negation, truth_test}
use Rattle.scan_base.specs.Predicate.{comparing, between}
use Rattle.scan_base.specs.Predicate.{membership, null_test, constant}
use Rattle.sql_query.specs.declared.query.ColumnName.{ColumnName}
use Rattle.sql_query.specs.declared.query.Expression.{Expression}
use Rattle.sql_query.specs.declared.query.Expression.TheVariants as expression
use Rattle.sql_query.specs.declared.query.SelectItem.{SelectItem}
use Rattle.sql_query.specs.declared.query.Select.{Select}
use Rattle.sql_query.specs.declared.query.Select.TheVariants as select
use Rattle.sql_query.specs.declared.query.Place.{Place}
use Rattle.sql_query.specs.declared.query.Equality.{Equality}
use Rattle.sql_query.specs.declared.query.Join.{Join}
use Rattle.sql_query.specs.declared.query.Term.{Term}
use Rattle.sql_query.specs.declared.query.Term.TheVariants.{Name, Literal}
use Rattle.sql_query.specs.Sentence.{Sentence}

-- a name has a byte or more, no more than it may have, and they are UTF-8
pub record IsName (name : List ℕ) : Type 0 where
  pub some : 1 ≤ length name
  pub few : length name ≤ most_name_bytes
  pub utf8 : IsUtf8 name

-- the names of a column
pub record IsColumnName (column : ColumnName) : Type 0 where
  pub place : IfSome column.place IsName
  pub name : IsName column.name

-- the names of an expression
abbrev pub ExpressionHasNames : Expression → Type 0
ExpressionHasNames (expression.Column column) = IsColumnName column
ExpressionHasNames expression.CountRows = Unit {0}
ExpressionHasNames (expression.Count column) = IsColumnName column
ExpressionHasNames (expression.Sum column) = IsColumnName column

-- the names of an item
pub record ItemHasNames (item : SelectItem) : Type 0 where
  pub expression : ExpressionHasNames item.expression
  pub alias : IfSome item.alias IsName

-- the names of a list, which has an item
abbrev pub SelectHasNames : Select → Type 0
SelectHasNames select.All = Unit {0}
SelectHasNames (select.List items) = (1 ≤ length items) × All ItemHasNames items

-- the names of a place
pub record PlaceHasNames (place : Place) : Type 0 where
  pub table : IsName place.table
  pub alias : IfSome place.alias IsName

-- the names of an equality
pub record EqualityHasNames (equality : Equality) : Type 0 where
  pub left : IsColumnName equality.left
  pub right : IsColumnName equality.right

-- the names of a join
pub record JoinHasNames (join : Join) : Type 0 where
  pub place : PlaceHasNames join.place
  pub on : All EqualityHasNames join.on

-- the name of a term, where it is one
abbrev pub TermHasNames : Term → Type 0
TermHasNames (Name column) = IsColumnName column
TermHasNames (Literal written) = Unit {0}

-- the names of an operand
abbrev pub OperandHasNames : Operand Term → Type 0
OperandHasNames (operand.Column term) = TermHasNames term
OperandHasNames (operand.Literal value) = Unit {0}

-- the names of a predicate
abbrev pub ConditionHasNames : Pred Term → Type 0
ConditionHasNames (conjunction p q) = ConditionHasNames p × ConditionHasNames q
ConditionHasNames (disjunction p q) = ConditionHasNames p × ConditionHasNames q
ConditionHasNames (negation p) = ConditionHasNames p
ConditionHasNames (truth_test negated tested p) = ConditionHasNames p
ConditionHasNames (comparing comparison a b) = OperandHasNames a × OperandHasNames b
ConditionHasNames (between negated a low high) =
    OperandHasNames a × OperandHasNames low × OperandHasNames high
ConditionHasNames (membership negated a items) = OperandHasNames a × All OperandHasNames items
ConditionHasNames (null_test negated a) = OperandHasNames a
ConditionHasNames (constant truth) = Unit {0}

-- each name in the query, of a table, a column or an alias, is one
pub record QueryHasNames (query : Sentence) : Type 0 where
  pub select : SelectHasNames query.select
  pub first : PlaceHasNames query.first
  pub joins : All JoinHasNames query.joins
  pub filter : IfSome query.filter ConditionHasNames
  pub group_by : All IsColumnName query.group_by
