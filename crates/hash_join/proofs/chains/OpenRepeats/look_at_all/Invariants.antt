use Rattle.std.proofs.Common.{◌≤◌, ◌-◌, length}
use Rattle.hash_join.specs.RowCache.{AreOpenRepeats}
use Rattle.work_watch.specs.WatchedWork.{ToldAtLeast}
use Rattle.hash_join.proofs.chains.OpenRepeats.look_at_all.Given as goal

-- the watch was told of the rows that were looked at
abbrev pub invariant-loop-to : goal.invariant-loop-to
invariant-loop-to g l = record {
  repeats : AreOpenRepeats l.rights l.links l.self;
  within : l.to ≤ length l.rights.places.items;
  ready : g.W.Watches.ready l.watch;
  watched : g.W.Watches.watched l.fn.watch l.watch;
  told : ToldAtLeast g.W.Watches.told l.to l.fn.watch l.watch;
}

abbrev pub decreases-loop-to : goal.decreases-loop-to
decreases-loop-to g l = length l.rights.places.items - l.to
