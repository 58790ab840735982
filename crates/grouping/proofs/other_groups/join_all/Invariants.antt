use Rattle.std.proofs.Common.{◌+◌}
use Rattle.group_slots.specs.Adding.{lists_of}
use Rattle.grouping.specs.inside.Merging.{AllJoined}
use Rattle.grouping.proofs.other_groups.join_all.Given as goal

abbrev pub invariant-loop-item : goal.invariant-loop-item
invariant-loop-item g l = record {
  joined : AllJoined l.others.groups.now (lists_of l.others.tallies.now) l.others.found (l.others.fed + l.others.more)
      (lists_of l.initial.tallies) (lists_of l.tallies) l.item;
  ready : g.W.Watches.ready l.watch;
  watched : g.W.Watches.watched l.fn.watch l.watch;
}
