use Rattle.std.proofs.Common.{◌≤◌, ◌-◌, length}
use Rattle.hash_join.specs.RowCache.{AreOpen}
use Rattle.work_watch.specs.WatchedWork.{ToldAtLeast}
use Rattle.hash_join.proofs.chains.OpenChains.link_all.Given as goal

-- the watch was told of the rows that are linked
abbrev pub invariant-loop-from : goal.invariant-loop-from
invariant-loop-from g l = record {
  linked : AreOpen l.rights l.self l.from;
  within : l.from ≤ length l.rights.places.items;
  ready : g.W.Watches.ready l.watch;
  watched : g.W.Watches.watched l.fn.watch l.watch;
  told : ToldAtLeast g.W.Watches.told (length l.rights.places.items - l.from) l.fn.watch l.watch;
}

abbrev pub decreases-loop-from : goal.decreases-loop-from
decreases-loop-from g l = l.from
