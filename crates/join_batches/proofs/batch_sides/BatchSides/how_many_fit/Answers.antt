use Rattle.std.proofs.Common.{List, get_or, refl, subst}
use Rattle.hash_join.specs.declared.pair.Pair.{Pair}
use Rattle.join_batches.specs.BatchSides.{FitsIn}
use Rattle.join_batches.proofs.Light.{fit_more}
use Rattle.join_batches.proofs.batch_sides.BatchSides.how_many_fit.Goals as goal

pub loop-number-preserved : goal.loop-number-preserved
loop-number-preserved c =
    let sides = c.args.self.now in
    let share = c.args.share in
    let number = get_or c.args.shown.now c.loop-number.number-index 0 in
    fit_more sides share c.args.placed.now.pairs.now c.args.shown.now c.loop-number.number-index number c.loop-number.count c.in_ok-count.count
    c.loop-number-test.true refl c.loop-number.invariant
    (subst (λ (pairs : List Pair). FitsIn sides share pairs number c.in_ok-count.count) c.first.ensures.pairs c.in_ok-count.ensures)
