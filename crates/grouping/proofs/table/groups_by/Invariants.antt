use Rattle.std.proofs.Common.{◌≡◌, ◌≤◌, ◌-◌, length, map}
use Rattle.first_rows.specs.RowKeys.{key_of}
use Rattle.grouping.specs.inside.Knowing.{AreKnown}
use Rattle.grouping.specs.inside.Placing.{IsFinding}
use Rattle.grouping.proofs.table.groups_by.Given as goal

abbrev pub invariant-rows : goal.invariant-rows
invariant-rows g l = record {
  finding : IsFinding l.chosen l.initial.firsts.keys (length l.groups.items) l.firsts.keys l.groups.items;
  known : AreKnown (g.T.Tags.meaning l.tags) (map key_of l.firsts.keys) l.known;
  long : length l.known ≡ length l.initial.known;
  few : length l.groups.items ≤ length l.chosen.rows.now;
}

abbrev pub decreases-rows : goal.decreases-rows
decreases-rows g l = length l.chosen.rows.now - length l.groups.items
