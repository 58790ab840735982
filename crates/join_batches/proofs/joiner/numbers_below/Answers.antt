use Rattle.std.proofs.Common.{◌++◌, ◌∷◌, [], ap, sym, ◌∙◌, arith}
use Rattle.join_batches.proofs.Typed.{range_more}
use Rattle.join_batches.proofs.joiner.numbers_below.Goals as goal

pub loop-number-preserved : goal.loop-number-preserved
loop-number-preserved c =
    c.in_ok-push.ensures.items ∙ ap (λ numbers. numbers ++ c.loop-number.number ∷ []) c.loop-number.invariant
    ∙ sym (range_more 0 c.loop-number.number c.loop-number.number (omega arith))
