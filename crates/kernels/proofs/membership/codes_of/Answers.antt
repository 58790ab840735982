use Rattle.std.proofs.Common.{length, arith}
use Rattle.kernels.proofs.AmongCodes.{codes_none, codes_more, codes_all, item_first, not_none}
use Rattle.kernels.proofs.membership.codes_of.Goals as goal

pub loop-item-init : goal.loop-item-init
loop-item-init c = codes_none c.args.integer c.args.items.now _ c.new-codes.ensures.items

pub loop-item-preserved : goal.loop-item-preserved
loop-item-preserved c =
    codes_more c.args.integer c.args.items.now c.loop-item.item-index c.item-item.result c.loop-item.codes.items _
    (item_first c.args.items.now c.loop-item.item-index c.item-item.result c.loop-item-test.true c.item-item.is)
    c.loop-item.invariant (c.in_ok-push_item.ensures c.if-not-branch.false)

pub returns : goal.returns
returns c =
    codes_all c.args.integer c.args.items.now c.loop-item.item-index c.loop-item.codes.items
    (not_none (length c.args.items.now) c.is_empty.result c.if-is_empty.false c.is_empty.ensures) (omega (arith, c.loop-item-test.false)) c.loop-item.invariant
