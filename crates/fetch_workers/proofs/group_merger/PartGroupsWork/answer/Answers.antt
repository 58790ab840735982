use Rattle.scan_exec.specs.GroupWork.{work_at}
use Rattle.fetch_workers.proofs.Merged.{begun_at}
use Rattle.fetch_workers.proofs.group_merger.PartGroupsWork.answer.Goals as goal

pub returns : goal.returns
returns c =
    let part = c.args.self.now in
    begun_at (work_at part.work.now) part.parts c.args.morsel c.count_before-from.result c.count_before-to.result c.begin_part.result
    c.count_before-from.ensures c.count_before-to.ensures c.begin_part.ensures
