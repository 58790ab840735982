use Rattle.std.proofs.Common.{◌==◌, ℕ, pos, not, get_or, ap, ◌∙◌, arith}
use Rattle.std.specs.Ordering.{int_eq}
use Rattle.kernels.proofs.OctetBits.{byte_test}
use Rattle.kernels.proofs.pairs.equal_block.Goals as goal

pub returns : goal.returns
returns c = λ row lt.
    c.pack.ensures row lt ∙ ap (λ (x : ℕ). not (x == 0)) (c.loop-k.invariant.made row (omega (arith, lt)))
    ∙ byte_test (int_eq (get_or c.args.lefts.now row (pos 0)) (get_or c.args.rights.now row (pos 0)))
