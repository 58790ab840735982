use Rattle.std.specs.Prelude.{◌-◌}
use Rattle.work_watch.specs.WatchedWork.{ToldAtLeast}
use Rattle.scan_exec.specs.GroupWork.{IsSamePart}
use Rattle.scan_exec.proofs.group_work.FedPart.into_groups.Given as goal

-- the watch was told of the rows so far, and maybe of more
abbrev pub invariant-loop-part : goal.invariant-loop-part
invariant-loop-part g l = record {
  same : IsSamePart l.fn.self l.part;
  ready : g.W.Watches.ready l.watch;
  watched : g.W.Watches.watched l.fn.watch l.watch;
  told : ToldAtLeast g.W.Watches.told (l.fn.self.left - l.part.left) l.fn.watch l.watch;
}

abbrev pub decreases-loop-part : goal.decreases-loop-part
decreases-loop-part g l = l.part.left
