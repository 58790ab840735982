use Rattle.std.proofs.Common.{◌+◌, length}
use Rattle.scan_exec.specs.GroupWork.{work_at}
use Rattle.fetch_workers.specs.Parts.{batches_before}
use Rattle.fetch_workers.proofs.group_merger.next_groups.Goals as goal

pub returns-in_ok-into_groups-in-Some-clause-groups : goal.returns-in_ok-into_groups-in-Some-clause-groups
returns-in_ok-into_groups-in-Some-clause-groups g c =
    let work = work_at c.args.work.now in
    let number = g.P.Answers.given c.args.answers.now in
    let before = batches_before (length work.batches) (g.P.Answers.count c.args.answers.now) in
    let next = rw c.in-Some.is at c.in_ok-part.ensures.part in
    (c.in_ok-into_groups-in-Some.ensures.groups work (before number) (before (number + 1)) (c.requires.can.each _ _ next.0), next.1, next.2)

pub returns-in_ok-into_groups-in-Some-clause-watched : goal.returns-in_ok-into_groups-in-Some-clause-watched
returns-in_ok-into_groups-in-Some-clause-watched g c = g.met.L.Watches.again _ _ _ c.next_part.ensures.watched c.into_groups.ensures.watched

pub returns-in_err-into_groups-in-Some-clause-watched : goal.returns-in_err-into_groups-in-Some-clause-watched
returns-in_err-into_groups-in-Some-clause-watched g c = g.met.L.Watches.again _ _ _ c.next_part.ensures.watched c.into_groups.ensures.watched
