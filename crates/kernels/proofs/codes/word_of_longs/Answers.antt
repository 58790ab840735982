use Rattle.std.proofs.Common.{◌==◌, ℕ, ap, ◌∙◌}
use Rattle.arrays.specs.Number.{element_at}
use Rattle.kernels.specs.Words.{bit}
use Rattle.kernels.proofs.Bits.{bit_of_tests}
use Rattle.kernels.proofs.codes.word_of_longs.Goals as goal

pub returns : goal.returns
returns c row lt =
    ap (λ (w : ℕ). bit w row) c.joined_longs.ensures
    ∙ bit_of_tests (λ (place : ℕ). element_at 8 c.args.values.now place == c.args.code) c.args.from 64 row lt
