use Rattle.std.proofs.Common.{ap, arith}
use Rattle.scan_exec.specs.GroupWork.{PartAt, work_at}
use Rattle.scan_exec.proofs.Feeding.{is_whole, part_whole}
use Rattle.scan_exec.proofs.group_work.FedPart.groups.Goals as goal

pub returns : goal.returns
returns c =
    let s = c.self.inside in
    let work = work_at s.work in
    let is = c.self.invariant.0 in
    let whole = is_whole work s.from s.at s.row s.to s.groups is (omega (arith, c.requires, ap (λ (p : PartAt). p.left) c.self.view_is)) in
    rw c.free_tables.ensures (part_whole work s.from s.at s.row s.to _ s.groups c.args.self is c.self.view_is whole)
