use Rattle.group_slots.proofs.Stepping.{IsStepped}
use Rattle.group_slots.proofs.row_groups.add_each.Given as goal

abbrev pub invariant-loop-k : goal.invariant-loop-k
invariant-loop-k l = IsStepped l.item l.part.batch.now.columns l.part.groups.now l.part.rows.now l.part.fed l.initial.tallies l.k l.tallies
