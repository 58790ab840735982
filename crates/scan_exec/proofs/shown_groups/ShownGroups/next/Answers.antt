use Rattle.std.proofs.Common.{refl, subst}
use Rattle.scan_exec.specs.Giving.{GivingAt, GivesNext}
use Rattle.scan_exec.specs.ShownGroups.{with_cells}
use Rattle.scan_exec.proofs.ShownGroups.{can_pick, shown_next}
use Rattle.scan_exec.proofs.shown_groups.ShownGroups.next.Goals as goal

pub pick-requires-clause-pick : goal.pick-requires-clause-pick
pick-requires-clause-pick c =
    can_pick c.self.inside.groups c.next.new.self c.self.inside.shown c.self.invariant c.in-Some.batch (rw (c.in_ok-batch.was, c.in-Some.is) at c.next.ensures)

pub returns : goal.returns
returns c =
    subst (λ (before : GivingAt). GivesNext before c.pick.result (with_cells c.self.inside.shown.shown.items c.next.new.self)) c.self.view_is
    (shown_next c.self.inside.groups c.next.new.self c.self.inside.shown c.self.invariant _ c.pick.result
    (rw (c.in_ok-batch.was, c.in-Some.is) at c.next.ensures) refl c.rows.ensures c.pick.ensures)
