use Rattle.std.proofs.Common.{ℕ, ◌+◌, Bool, false, get_or, if◌then◌else◌, ap, ◌∙◌}
use Rattle.arrays.specs.Validity.{is_valid}
use Rattle.kernels.specs.Words.{bit, by_bits}
use Rattle.arrays.proofs.ValidWords.{bit_of_taken}
use Rattle.kernels.proofs.TruthBits.{known_bits}
use Rattle.kernels.proofs.flags.FlagTestsKernel.word.Goals as goal

pub returns : goal.returns
returns c = λ row lt.
    let s = c.args.self.now in
    let flag : Bool = get_or s.values.now (c.args.from + row) false in
    let passes : Bool = if flag then s.of_true else s.of_false in
    let known : Bool = is_valid s.validity.now (c.args.from + row) in
    ap (λ (b : Bool). by_bits b (bit c.valid_word.result row))
    (c.chosen_bits.ensures row lt
    ∙ ap (λ (b : Bool). if b then s.of_true else s.of_false) (ap (λ (w : ℕ). bit w row) c.word.ensures ∙ bit_of_taken s.values.now c.args.from row lt))
    ∙ ap (λ (b : Bool). by_bits passes b) (c.valid_word.ensures row lt)
    ∙ known_bits passes known
