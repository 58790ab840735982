use Rattle.std.proofs.Common.{◌+◌, Bool, ap, ◌∙◌}
use Rattle.arrays.specs.Validity.{is_valid}
use Rattle.kernels.specs.Codes.{code_at, is_among}
use Rattle.kernels.specs.Words.{bit, by_bits}
use Rattle.kernels.proofs.TruthBits.{known_bits}
use Rattle.kernels.proofs.code_membership.CodeMembershipKernel.word.Goals as goal

pub returns : goal.returns
returns c = λ row lt.
    let s = c.args.self.now in
    let passes : Bool = is_among s.codes.now (code_at s.numbers.integer s.numbers.values.now (c.args.from + row)) in
    let known : Bool = is_valid s.numbers.validity.now (c.args.from + row) in
    ap (λ (b : Bool). by_bits b (bit c.valid_word.result row)) (c.among_word.ensures row lt)
    ∙ ap (λ (b : Bool). by_bits passes b) (c.valid_word.ensures row lt)
    ∙ known_bits passes known
