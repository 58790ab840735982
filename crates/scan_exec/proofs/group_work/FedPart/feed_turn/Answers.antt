use Rattle.std.proofs.Common.{ap, arith}
use Rattle.scan_exec.specs.GroupWork.{PartAt, work_at}
use Rattle.scan_exec.proofs.Feeding.{some_left}
use Rattle.scan_exec.proofs.group_work.FedPart.feed_turn.Goals as goal

pub feed_next-requires : goal.feed_next-requires
feed_next-requires c =
    let s = c.part.inside in
    let some = some_left (work_at s.work) s.from s.at s.row s.to s.groups c.part.invariant.0 c.loop-part-test.true in
    record { more = omega (arith, some, ap (λ (p : PartAt). p.left) c.part.view_is) }
