use Rattle.std.proofs.Common.{subst}
use Rattle.scan_exec.specs.Giving.{GivingAt, MakesReady}
use Rattle.scan_exec.specs.ShownGroups.{with_cells}
use Rattle.scan_exec.proofs.ShownGroups.{ready_shown, still_shows}
use Rattle.scan_exec.proofs.shown_groups.ShownGroups.make.Goals as goal

pub invariant_of-self : goal.invariant_of-self
invariant_of-self g c = still_shows c.self.inside.groups c.make.new.self c.self.inside.shown c.self.invariant c.make.result c.make.ensures.makes

pub returns-clause-makes : goal.returns-clause-makes
returns-clause-makes g c =
    subst (λ (before : GivingAt). MakesReady before c.make.result (with_cells c.self.inside.shown.shown.items c.make.new.self)) c.self.view_is
    (ready_shown c.self.inside.groups c.make.new.self c.self.inside.shown c.self.invariant c.make.result c.make.ensures.makes)
