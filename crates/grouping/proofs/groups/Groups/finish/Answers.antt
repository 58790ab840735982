use Rattle.std.proofs.Common.{refl}
use Rattle.grouping.proofs.Giving.{finishes}
use Rattle.grouping.proofs.groups.Groups.finish.Goals as goal

pub returns-in-Ok : goal.returns-in-Ok
returns-in-Ok c =
    finishes _ _ c.self.inside.kept.firsts.keys c.in-Ok.answers c.self.view_is c.in_default.is refl
    c.self.invariant.shaped.typed (c.self.invariant.first c.in_default.is) c.in-Ok.ensures
