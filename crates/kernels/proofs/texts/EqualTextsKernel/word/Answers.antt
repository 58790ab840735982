use Rattle.std.proofs.Common.{◌+◌, Bool, ap, ◌∙◌}
use Rattle.arrays.specs.Validity.{is_valid}
use Rattle.kernels.specs.TextTests.{is_text_at}
use Rattle.kernels.specs.Words.{bit, by_bits}
use Rattle.kernels.proofs.TruthBits.{known_bits}
use Rattle.kernels.proofs.texts.EqualTextsKernel.word.Goals as goal

pub returns : goal.returns
returns c = λ row lt.
    let s = c.args.self.now in
    let passes : Bool = is_text_at s.needle s.offsets.now s.bytes.now (c.args.from + row) in
    let known : Bool = is_valid s.validity.now (c.args.from + row) in
    ap (λ (b : Bool). by_bits b (bit c.valid_word.result row)) (c.equal_word.ensures row lt)
    ∙ ap (λ (b : Bool). by_bits passes b) (c.valid_word.ensures row lt)
    ∙ known_bits passes known
