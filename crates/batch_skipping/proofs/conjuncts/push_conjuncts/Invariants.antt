use Rattle.std.proofs.Common.{◌≡◌, ◌++◌, map}
use Rattle.scan_base.specs.View.{pred_of}
use Rattle.rewrite.specs.Conjuncts.{conjuncts}
use Rattle.batch_skipping.proofs.Taking.{pending, sizes}
use Rattle.batch_skipping.proofs.conjuncts.push_conjuncts.Given as goal

-- what was taken, and then what waits
abbrev pub invariant-loop-next : goal.invariant-loop-next
invariant-loop-next l =
    map (λ part. pred_of part.now) l.parts.items ++ pending (map (λ part. pred_of part.now) l.waiting.items)
    ≡ map (λ part. pred_of part.now) l.fn.parts.items ++ conjuncts (pred_of l.predicate)

abbrev pub decreases-loop-next : goal.decreases-loop-next
decreases-loop-next l = sizes (map (λ part. pred_of part.now) l.waiting.items)
