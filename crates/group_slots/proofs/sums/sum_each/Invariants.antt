use Rattle.typed_plan.specs.declared.plan.Aggregate.TheVariants.{Sum}
use Rattle.group_slots.proofs.Stepping.{IsStepped}
use Rattle.group_slots.proofs.sums.sum_each.Given as goal

abbrev pub invariant-loop-k : goal.invariant-loop-k
invariant-loop-k g l = IsStepped (Sum l.column) l.part.batch.now.columns l.part.groups.now l.part.rows.now l.part.fed l.initial.tallies l.k l.tallies
