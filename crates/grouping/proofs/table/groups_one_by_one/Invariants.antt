use Rattle.grouping.specs.inside.Placing.{IsFinding}
use Rattle.grouping.proofs.table.groups_one_by_one.Given as goal

abbrev pub invariant-loop-row : goal.invariant-loop-row
invariant-loop-row l = IsFinding l.chosen l.initial.firsts.keys l.row-index l.firsts.keys l.groups.items
