use Rattle.typed_plan.proofs.plan.TypedPlan.tables.Goals as goal
use Rattle.typed_plan.proofs.Scans.{some_table}
use Rattle.typed_plan.specs.View.{tree_of}

pub returns-clause-columns : goal.returns-clause-columns
returns-clause-columns c = rw (← c.self.view_is) c.self.invariant.1

pub returns-clause-some : goal.returns-clause-some
returns-clause-some c = rw (← c.self.view_is) (some_table (tree_of c.self.inside.plan) c.self.inside.tables.items c.self.invariant.1)
