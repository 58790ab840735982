use Rattle.std.proofs.Common.{ℕ, ◌+◌, get_or, refl, arith}
use Rattle.kernels.specs.Codes.{code_at}
use Rattle.kernels.proofs.AmongCodes.{gathers_none, gathers_more, gathers_all}
use Rattle.kernels.proofs.code_membership.among_word.Goals as goal

pub loop-code-init : goal.loop-code-init
loop-code-init c = gathers_none c.args.codes.now (λ (row : ℕ). code_at c.args.numbers.now.integer c.args.numbers.now.values.now (c.args.from + row))

pub loop-code-preserved : goal.loop-code-preserved
loop-code-preserved c =
    let codes = c.args.codes.now in
    gathers_more codes (λ (row : ℕ). code_at c.args.numbers.now.integer c.args.numbers.now.values.now (c.args.from + row))
    c.loop-code.code-index c.loop-code.word c.word_with_code-word.result (get_or codes c.loop-code.code-index 0) c.loop-code-test.true refl c.loop-code.invariant c.word_with_code-word.ensures

pub returns : goal.returns
returns c =
    gathers_all c.args.codes.now (λ (row : ℕ). code_at c.args.numbers.now.integer c.args.numbers.now.values.now (c.args.from + row))
    c.loop-code.code-index c.loop-code.word (omega (arith, c.loop-code-test.false)) c.loop-code.invariant
