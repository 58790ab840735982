-- The plan that a tree of boxes stands for.
use Rattle.std.specs.Prelude.{List}
use Rattle.arrow_types.specs.declared.schema.Schema.{Schema}
use Rattle.typed_plan.specs.declared.plan.Plan.{Plan, Scan, Filter', Join'}
use Rattle.typed_plan.specs.declared.plan.Output.{Output}
use Rattle.scan_base.specs.View.{pred_of}
use Rattle.table_versions.specs.StoredTables.{TableAt}
use Rattle.typed_plan.specs.Plan.{Tree, scan, filtered, joined, PlanAt}

-- a bound query: the tables of its places in order, a tree of boxes, what the result takes of its
-- rows, and the result's columns
pub record BoundAt : Type 0 where
  pub tables : List TableAt
  pub plan : Plan
  pub output : Output
  pub schema : Schema

-- the tree that boxes stand for
abbrev pub tree_of : Plan → Tree
tree_of (Scan table schema columns) = scan table schema columns
tree_of (Filter' predicate _ input) = filtered (pred_of predicate) (tree_of input)
tree_of (Join' _ left _ right on) = joined (tree_of left) (tree_of right) on

-- the plan of a bound query
abbrev pub plan_of : BoundAt → PlanAt
plan_of bound = record { tree = tree_of bound.plan; output = bound.output; schema = bound.schema }
