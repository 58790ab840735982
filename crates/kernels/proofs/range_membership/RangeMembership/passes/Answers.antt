use Rattle.std.proofs.Common.{◌≡◌, Bool, ◌&&◌, int_le, ap, ◌∙◌}
use Rattle.kernels.specs.Ranges.{is_within}
use Rattle.kernels.proofs.Orders.{at_most_own}
use Rattle.kernels.proofs.range_membership.RangeMembership.passes.Goals as goal

pub returns : goal.returns
returns g c =
    let s = c.args.self.now in
    let value = g.E.Number.value in
    let number = c.read-number.result in
    let exact = g.met.E.Integral.exact_law in
    let low : c.le.result ≡ int_le (value s.least) (value number) =
    c.le.ensures ∙ at_most_own g.E.PartialOrd.partial_cmp value s.least number (g.met.E.Number.order_law s.least number exact) in
    let high : c.le-2.result ≡ int_le (value number) (value s.most) =
    c.le-2.ensures ∙ at_most_own g.E.PartialOrd.partial_cmp value number s.most (g.met.E.Number.order_law number s.most exact) in
    ap (λ (b : Bool). b && c.le-2.result) low ∙ ap (λ (b : Bool). int_le (value s.least) (value number) && b) high
    ∙ ap (λ e. is_within (value s.least) (value s.most) (value e)) c.read-number.ensures
