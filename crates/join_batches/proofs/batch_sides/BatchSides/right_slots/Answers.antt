use Rattle.std.proofs.Common.{◌+◌, length, refl, get_or}
use Rattle.hash_join.specs.declared.pair.Pair.{Pair}
use Rattle.join_batches.proofs.Cells.{held_more, right_found}
use Rattle.join_batches.proofs.batch_sides.BatchSides.right_slots.Goals as goal

pub loop-pair-preserved : goal.loop-pair-preserved
loop-pair-preserved c =
    let sides = c.args.self.now in
    let pairs = c.args.pairs.now in
    let place = c.loop-pair.pair-index in
    let other : Pair = record { left = 0; batch = 0; row = 0 } in
    held_more sides (length sides.left_types.now + c.args.number) pairs place other c.loop-pair.slots.items c.push.new.self.items _ c.loop-pair-test.true
    c.in_ok-push.ensures.items c.loop-pair.invariant
    (right_found sides c.args.number (get_or pairs place other) _ c.index-self-pair.result c.columns.result.now c.requires.sides
    (c.requires.there place other c.loop-pair-test.true) c.columns.ensures.columns c.columns.ensures.long c.requires.number
    c.index-columns-number.is refl)
