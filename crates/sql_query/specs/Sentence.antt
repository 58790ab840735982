-- A query as plain data.
use Rattle.std.specs.Prelude.{ℕ, Bool, true, false, not, ◌&&◌, ◌||◌, ◌==◌, List, length, Option}
use Rattle.std.specs.Prelude.{option_map, unwrap_or}
use Rattle.std.specs.List.{list_any}
use Rattle.scan_base.specs.Predicate.{Pred}
use Rattle.scan_base.specs.View.{pred_of}
use Rattle.sql_query.specs.declared.query.ColumnName.{ColumnName}
use Rattle.sql_query.specs.declared.query.Expression.{Expression}
use Rattle.sql_query.specs.declared.query.Expression.TheVariants.{Column}
use Rattle.sql_query.specs.declared.query.Select.{Select}
use Rattle.sql_query.specs.declared.query.Select.TheVariants as select
use Rattle.sql_query.specs.declared.query.Place.{Place}
use Rattle.sql_query.specs.declared.query.Join.{Join}
use Rattle.sql_query.specs.declared.query.Query.{Query}
use Rattle.sql_query.specs.declared.query.Term.{Term}

-- what a query says, without where its parts lie in memory
pub record Sentence : Type 0 where
  pub select : Select
  pub first : Place
  pub joins : List Join
  pub filter : Option (Pred Term)
  pub group_by : List ColumnName

-- what a query of the code says
abbrev pub sentence_of : Query → Sentence
sentence_of query = record {
  select = query.select;
  first = query.first;
  joins = query.joins;
  filter = option_map pred_of query.filter;
  group_by = query.group_by;
}

-- the name that a place goes by: its alias, else the table's
abbrev pub place_name : Place → List ℕ
place_name place = unwrap_or place.alias place.table

-- a COUNT or a SUM
abbrev pub is_aggregate : Expression → Bool
is_aggregate (Column name) = false
is_aggregate _ = true

-- one of the items is an aggregate
abbrev pub has_aggregate : Select → Bool
has_aggregate select.All = false
has_aggregate (select.List items) = list_any (λ item. is_aggregate item.expression) items

-- whether its rows are made of groups
abbrev pub is_grouped : Sentence → Bool
is_grouped query = has_aggregate query.select || not (length query.group_by == 0)

-- whether all columns are selected
abbrev pub is_all : Select → Bool
is_all select.All = true
is_all (select.List items) = false

-- a JOIN with an aggregate or GROUP BY, or * with GROUP BY: such a query is left out
abbrev pub is_left_out_whole : Sentence → Bool
is_left_out_whole query =
    (not (length query.joins == 0) && is_grouped query)
    || (is_all query.select && not (length query.group_by == 0))
