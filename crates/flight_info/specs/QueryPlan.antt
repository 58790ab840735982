-- The plan of a query's text.
use Rattle.std.specs.Prelude.{◌≡◌, ◌≤◌, ℕ, Bool, List}
use Rattle.scan_base.specs.Limits.{most_rows}
use Rattle.arrow_types.specs.Schema.{IsSchema}
use Rattle.sql_query.specs.Sentence.{Sentence, is_grouped}
use Rattle.table_versions.specs.Database.{Database}
use Rattle.query_binder.specs.Binding.{IsPlanOf}
use Rattle.typed_plan.specs.Plan.{PlanAt}
use Rattle.flight_info.specs.QueryMeaning.{AsksSentence, first_rows}

-- the plan of the query that a text asks, how many rows its first place has, and whether it is
-- grouped
pub record IsPlanned (database : Database) (text : List ℕ) (plan : PlanAt) (rows : ℕ)
    (grouped : Bool) : Type 0 where
  pub query : Sentence
  pub asks : AsksSentence database text query
  pub of : IsPlanOf query database plan
  pub counted : rows ≡ first_rows database query
  pub few : rows ≤ most_rows
  pub groups : grouped ≡ is_grouped query
  pub schema : IsSchema plan.schema
