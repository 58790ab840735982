use Rattle.std.proofs.Common.{nat_lt, refl, ◌∙◌}
use Rattle.std.specs.Ordering.{is_gt, is_le}
use Rattle.batch_skipping.proofs.Standings.{greater_so, same_three}
use Rattle.batch_skipping.proofs.text_standing.TextStanding.can_be_greater.Goals as goal

pub returns : goal.returns
returns c = λ a b so.
    let unknown = nat_lt 0 c.args.self.nulls in
    same_three c.is_gt.result c.is_le.result unknown (is_gt c.args.self.greatest) (is_le c.args.self.least) unknown c.is_gt.ensures c.is_le.ensures refl
    ∙ greater_so c.args.self a b so
