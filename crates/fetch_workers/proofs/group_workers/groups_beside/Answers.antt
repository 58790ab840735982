use Rattle.scan_exec.specs.GroupWork.{work_at}
use Rattle.fetch_workers.proofs.GroupsKept.{can_merge}
use Rattle.fetch_workers.proofs.group_workers.groups_beside.Goals as goal

pub in_order-merged-requires-clause-takes : goal.in_order-merged-requires-clause-takes
in_order-merged-requires-clause-takes g c lifetimes within =
    (can_merge (work_at c.args.work.now) c.part_count-parts.result c.args.workers c.requires.can c.part_count-parts.ensures, c.requires.ready)
