use Rattle.std.proofs.Common.{refl, arith}
use Rattle.grouping.proofs.Finding.{step}
use Rattle.grouping.proofs.table.groups_one_by_one.Goals as goal

pub loop-row-preserved : goal.loop-row-preserved
loop-row-preserved c =
    let done = c.in_ok-short_group.ensures in
    rw (c.in_ok-push.ensures.items, done.place, done.inserted)
    (step _ _ _ _ _ _ c.loop-row.invariant (omega arith) refl refl refl refl)
