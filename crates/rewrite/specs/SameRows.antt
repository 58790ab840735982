-- A plan that stands for another one.
use Rattle.std.specs.Prelude.{◌≡◌, ℕ, List}
use Rattle.rewrite.specs.Laws.{AreWide}
use Rattle.rewrite.specs.Places.{rows_over}
use Rattle.table_versions.specs.Database.{Database}
use Rattle.table_versions.specs.Table.{Row}
use Rattle.table_versions.specs.Valid.{IsDatabase}
use Rattle.typed_plan.specs.Plan.{PlanAt, output_rows, plan_rows}
use Rattle.typed_plan.specs.TypedPlans.{IsOver, is_grouping}
use Rattle.typed_plan.specs.View.{BoundAt, plan_of}

-- the same rows in the same order on each database whose tables have the old plan's columns
abbrev pub SameRows : PlanAt → PlanAt → Type 0
SameRows new old =
    (database : Database) (a b : ℕ) → IsDatabase database → IsOver old.tree database →
    plan_rows new database a b ≡ plan_rows old database a b

-- and of each list of rows of the places
abbrev pub SameOverPlaces : PlanAt → PlanAt → Type 0
SameOverPlaces new old =
    (places : List (List Row)) → AreWide old.tree places →
    output_rows new.output (rows_over new.tree places)
    ≡ output_rows old.output (rows_over old.tree places)

-- a new plan gives what an old one gives: the same rows of the same tables, grouped or not as the
-- old one, with the same columns
pub record StandsFor (new old : BoundAt) : Type 0 where
  pub rows : SameRows (plan_of new) (plan_of old)
  pub places : SameOverPlaces (plan_of new) (plan_of old)
  pub grouping : is_grouping new.output ≡ is_grouping old.output
  pub tables : new.tables ≡ old.tables
  pub schema : new.schema ≡ old.schema
