use Rattle.typed_plan.specs.declared.plan.Aggregate.TheVariants.{Count}
use Rattle.group_slots.specs.HeldTallies.{count_tallies}
use Rattle.group_slots.proofs.Stepping.{IsStepped}
use Rattle.group_slots.proofs.counts.count_valid.Given as goal

abbrev pub invariant-loop-k : goal.invariant-loop-k
invariant-loop-k l = IsStepped (Count l.column) l.part.batch.now.columns l.part.groups.now l.part.rows.now l.part.fed (count_tallies l.initial.counts) l.k (count_tallies l.counts)
