use Rattle.grouping.specs.inside.Placing.{IsFinding}
use Rattle.grouping.specs.inside.Seeing.{AreSeenOf}
use Rattle.grouping.proofs.coded_groups.groups_by_codes.Given as goal

abbrev pub invariant-loop-place : goal.invariant-loop-place
invariant-loop-place l = record {
  finding : IsFinding l.chosen l.initial.firsts.keys l.place l.firsts.keys l.groups.items;
  seen : AreSeenOf l.firsts.texts l.chosen.batch.now l.chosen.columns.now l.numbers;
}
