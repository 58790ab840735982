-- The limits of number and of names, on the sentence: a law says that these are those of its
-- tokens.
use Rattle.std.specs.Prelude.{ℕ, ◌+◌, ◌≤◌, List, [], ◌∷◌, ◌++◌, length, Option, Some, None, All}
use Rattle.std.specs.List.{flat_map}
use Rattle.std.specs.Option.{option_to_list}
use Rattle.scan_base.specs.Limits.{most_places, most_items, most_members, most_name_bytes}
use Rattle.scan_base.specs.declared.predicate.Operand.{Operand}
use Rattle.scan_base.specs.declared.predicate.Operand.TheVariants as operand
use Rattle.scan_base.specs.Predicate.{Pred, conjunction, disjunction, negation, truth_test}
use Rattle.scan_base.specs.Predicate.{comparing, between}
use Rattle.scan_base.specs.Predicate.{membership, null_test, constant}
use Rattle.sql_query.specs.declared.query.ColumnName.{ColumnName}
use Rattle.sql_query.specs.declared.query.Expression.{Expression}
use Rattle.sql_query.specs.declared.query.Expression.TheVariants as expression
use Rattle.sql_query.specs.declared.query.SelectItem.{SelectItem}
use Rattle.sql_query.specs.declared.query.Select.{Select}
use Rattle.sql_query.specs.declared.query.Select.TheVariants as select
use Rattle.sql_query.specs.declared.query.Place.{Place}
use Rattle.sql_query.specs.declared.query.Equality.{Equality}
use Rattle.sql_query.specs.declared.query.Join.{Join}
use Rattle.sql_query.specs.declared.query.Term.{Term}
use Rattle.sql_query.specs.declared.query.Term.TheVariants.{Name, Literal}
use Rattle.sql_query.specs.Sentence.{Sentence}

-- ---- the names in a sentence, of tables, columns and aliases, in their order

abbrev pub column_names : ColumnName → List (List ℕ)
column_names column = option_to_list column.place ++ column.name ∷ []

abbrev pub expression_names : Expression → List (List ℕ)
expression_names (expression.Column column) = column_names column
expression_names expression.CountRows = []
expression_names (expression.Count column) = column_names column
expression_names (expression.Sum column) = column_names column

abbrev pub item_names : SelectItem → List (List ℕ)
item_names item = expression_names item.expression ++ option_to_list item.alias

abbrev pub select_names : Select → List (List ℕ)
select_names select.All = []
select_names (select.List items) = flat_map item_names items

abbrev pub place_names : Place → List (List ℕ)
place_names place = place.table ∷ option_to_list place.alias

abbrev pub equality_names : Equality → List (List ℕ)
equality_names equality = column_names equality.left ++ column_names equality.right

abbrev pub join_names : Join → List (List ℕ)
join_names join = place_names join.place ++ flat_map equality_names join.on

abbrev pub term_names : Term → List (List ℕ)
term_names (Name column) = column_names column
term_names (Literal written) = []

abbrev pub operand_names : Operand Term → List (List ℕ)
operand_names (operand.Column term) = term_names term
operand_names (operand.Literal value) = []

abbrev pub condition_names : Pred Term → List (List ℕ)
condition_names (conjunction p q) = condition_names p ++ condition_names q
condition_names (disjunction p q) = condition_names p ++ condition_names q
condition_names (negation p) = condition_names p
condition_names (truth_test negated tested p) = condition_names p
condition_names (comparing comparison a b) = operand_names a ++ operand_names b
condition_names (between negated a low high) =
    operand_names a ++ (operand_names low ++ operand_names high)
condition_names (membership negated a items) = operand_names a ++ flat_map operand_names items
condition_names (null_test negated a) = operand_names a
condition_names (constant truth) = []

abbrev pub filter_names : Option (Pred Term) → List (List ℕ)
filter_names None = []
filter_names (Some p) = condition_names p

abbrev pub sentence_names : Sentence → List (List ℕ)
sentence_names s = select_names s.select ++ ((place_names s.first ++ flat_map join_names s.joins)
    ++ (filter_names s.filter ++ flat_map column_names s.group_by))

-- ---- how many items the list has, and each IN

abbrev pub select_items : Select → ℕ
select_items select.All = 0
select_items (select.List items) = length items

abbrev pub members : Pred Term → List ℕ
members (conjunction p q) = members p ++ members q
members (disjunction p q) = members p ++ members q
members (negation p) = members p
members (truth_test negated tested p) = members p
members (membership negated a items) = length items ∷ []
members other = []

abbrev pub filter_members : Option (Pred Term) → List ℕ
filter_members None = []
filter_members (Some p) = members p

-- There are at most so many places, items in the list, columns in GROUP BY and items in each IN,
-- and each name has at most so many bytes.
pub record IsWithinLimits (s : Sentence) : Type 0 where
  pub places : length s.joins + 1 ≤ most_places
  pub items : select_items s.select ≤ most_items
  pub group_by : length s.group_by ≤ most_items
  pub members : All (λ count. count ≤ most_members) (filter_members s.filter)
  pub names : All (λ name. length name ≤ most_name_bytes) (sentence_names s)
