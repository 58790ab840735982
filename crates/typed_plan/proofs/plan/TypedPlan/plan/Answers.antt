use Rattle.typed_plan.proofs.plan.TypedPlan.plan.Goals as goal

pub returns-clause-typed : goal.returns-clause-typed
returns-clause-typed c = rw (← c.self.view_is) c.self.invariant.0
