use Rattle.std.proofs.Common.{◌+◌, Bool, ap, ◌∙◌}
use Rattle.arrays.specs.Number.{element_at}
use Rattle.arrays.specs.Validity.{is_valid}
use Rattle.kernels.specs.Ranges.{is_within}
use Rattle.kernels.specs.Words.{bit, by_bits}
use Rattle.kernels.proofs.TruthBits.{known_bits}
use Rattle.kernels.proofs.range_membership.RangeMembershipKernel.word.Goals as goal

pub returns : goal.returns
returns g c = λ row lt.
    let s = c.args.self.now in
    let passes : Bool = is_within (g.E.Number.value s.least) (g.E.Number.value s.most) (g.E.Number.value (g.E.FixedWidth.of_bits (element_at g.E.Element.WIDTH s.values.now (c.args.from + row)))) in
    let known : Bool = is_valid s.validity.now (c.args.from + row) in
    ap (λ (b : Bool). by_bits b (bit c.valid_word.result row)) (c.passes_word.ensures row lt)
    ∙ ap (λ (b : Bool). by_bits passes b) (c.valid_word.ensures row lt)
    ∙ known_bits passes known
