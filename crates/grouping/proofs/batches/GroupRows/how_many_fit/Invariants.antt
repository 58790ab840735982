use Rattle.grouping.specs.inside.Finishing.{GroupsFit, groups_in}
use Rattle.grouping.proofs.batches.GroupRows.how_many_fit.Given as goal

abbrev pub invariant-loop-item : goal.invariant-loop-item
invariant-loop-item l = GroupsFit (groups_in l.self) l.from l.most l.item l.count
