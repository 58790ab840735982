-- What binding a query gives.
use Rattle.std.specs.Prelude.{◌≡◌, ℕ}
use Rattle.sql_query.specs.Sentence.{Sentence}
use Rattle.table_versions.specs.Database.{Database}
use Rattle.typed_plan.specs.Meaning.{meaning}
use Rattle.query_binder.specs.ResultSchema.{result_schema}
use Rattle.typed_plan.specs.Plan.{PlanAt, plan_rows}
use Rattle.typed_plan.specs.TypedPlans.{IsOver}

-- the plan gives the rows that the query means, on each range of the first place
abbrev pub Means : PlanAt → Sentence → Database → Type 0
Means plan query database = (a b : ℕ) → plan_rows plan database a b ≡ meaning query database a b

-- a plan of a query at a database
pub record IsPlanOf (query : Sentence) (database : Database) (plan : PlanAt) : Type 0 where
  pub means : Means plan query database
  pub schema : plan.schema ≡ result_schema query database
  pub over : IsOver plan.tree database
