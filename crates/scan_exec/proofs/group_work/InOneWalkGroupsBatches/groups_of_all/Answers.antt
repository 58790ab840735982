use Rattle.std.proofs.Common.{length, refl}
use Rattle.scan_exec.specs.GroupWork.{row_count_between, work_at}
use Rattle.scan_exec.proofs.Feeding.{begun_part, whole_part}
use Rattle.scan_exec.proofs.group_work.InOneWalkGroupsBatches.groups_of_all.Goals as goal

pub returns-clause-groups : goal.returns-clause-groups
returns-clause-groups g c =
    let work = work_at c.args.work.now in
    let last = length work.batches in
    whole_part work last c.into_groups.result refl
    (c.into_groups.ensures.groups work 0 last (begun_part work 0 last (row_count_between 0 last work.batches) c.in_ok-part.part c.in_ok-part.ensures))
