use Rattle.typed_plan.specs.declared.plan.Aggregate.TheVariants.{Sum}
use Rattle.group_slots.proofs.Pieced.{AreFilled}
use Rattle.group_slots.proofs.partial_sums.fill_pieces.Given as goal

abbrev pub invariant-loop-k : goal.invariant-loop-k
invariant-loop-k g l = AreFilled (Sum l.column) l.part.batch.now.columns l.part.groups.now l.part.rows.now l.initial.pieces l.k l.pieces l.holds
