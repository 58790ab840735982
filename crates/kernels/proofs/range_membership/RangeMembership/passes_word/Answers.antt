use Rattle.std.proofs.Common.{◌+◌, ◌==◌, ℕ, not, ap, ◌∙◌, arith}
use Rattle.arrays.specs.Number.{element_at}
use Rattle.kernels.specs.Ranges.{is_within}
use Rattle.kernels.proofs.OctetBits.{byte_test}
use Rattle.kernels.proofs.range_membership.RangeMembership.passes_word.Goals as goal

pub returns : goal.returns
returns g c = λ row lt.
    let s = c.args.self.now in
    let value = g.E.Number.value in
    c.pack.ensures row lt ∙ ap (λ (x : ℕ). not (x == 0)) (c.loop-k.invariant.made row (omega (arith, lt)))
    ∙ byte_test (is_within (value s.least) (value s.most) (value (g.E.FixedWidth.of_bits (element_at g.E.Element.WIDTH s.values.now (c.args.from + row)))))
