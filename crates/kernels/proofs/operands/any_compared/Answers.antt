use Rattle.std.proofs.Common.{◌≡◌, ◌+◌, ◌-◌, ℕ, arith, subst}
use Rattle.kernels.proofs.Lists.{any_said, any_none, any_more}
use Rattle.kernels.proofs.operands.any_compared.Goals as goal

pub loop-index-init : goal.loop-index-init
loop-index-init c = any_none c.args.rows.now c.args.operand.now c.args.items.now c.in_ok-mask.mask c.in_ok-mask.ensures

pub loop-index-preserved : goal.loop-index-preserved
loop-index-preserved c =
    let rows = c.args.rows.now in
    let items = c.args.items.now in
    let index = c.loop-index.index - 1 in
    let next : c.loop-index.index ≡ index + 1 = omega (arith, c.loop-index-test.true) in
    any_more rows c.args.operand.now c.index-items-index.result items index c.in_ok-compare_leaf.field-0 c.loop-index.mask c.or-mask.result
    (omega (arith, c.loop-index-test.true, c.loop-index.auto.index)) c.index-items-index.is c.in_ok-compare_leaf.ensures
    (subst (λ (n : ℕ). c.loop-index.mask ≡ any_said rows c.args.operand.now items n) next c.loop-index.invariant) c.or-mask.ensures
