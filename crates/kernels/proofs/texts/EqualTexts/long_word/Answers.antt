use Rattle.std.proofs.Common.{◌==◌, ◌+◌, ℕ, length, ap, ◌∙◌, arith}
use Rattle.kernels.specs.TextTests.{cut_at}
use Rattle.kernels.proofs.Bits.{bit_of_none}
use Rattle.kernels.proofs.TextCuts.{far_test, too_long}
use Rattle.kernels.proofs.texts.EqualTexts.long_word.Goals as goal

pub returns-then-len : goal.returns-then-len
returns-then-len c = λ row lt.
    let s = c.args.self.now in
    bit_of_none row ∙ too_long s.offsets.now s.bytes.now s.count (c.args.from + row) (length s.needle) s.cut (omega (arith, c.requires, lt)) (omega (arith, c.if-len.true, c.len-len.ensures))

pub returns : goal.returns
returns c = λ row lt.
    let s = c.args.self.now in
    c.far_word.ensures row lt ∙ far_test s.offsets.now s.bytes.now s.count (c.args.from + row) c.len-len.result s.cut (omega (arith, c.requires, lt))
    ∙ ap (λ (n : ℕ). length (cut_at s.offsets.now s.bytes.now (c.args.from + row)) == n) c.len-len.ensures
