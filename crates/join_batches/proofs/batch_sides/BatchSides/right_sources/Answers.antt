use Rattle.std.proofs.Common.{◌<◌, ap, length, map, sym, arith, ◌∙◌}
use Rattle.std.proofs.lemmas.List.{take_all}
use Rattle.arrays.specs.Batch.{BatchAt}
use Rattle.arrays.specs.Column.{ColumnAt}
use Rattle.join_batches.proofs.Sources.{of_number, column_is, long_more, right_have, sources_more}
use Rattle.join_batches.proofs.Typed.{typed_long}
use Rattle.join_batches.proofs.batch_sides.BatchSides.right_sources.Goals as goal

pub loop-batch-preserved : goal.loop-batch-preserved
loop-batch-preserved c =
    let sides = c.args.self.now in
    let rights = sides.rights.now in
    let number = c.args.number in
    let i = c.loop-batch.batch-index in
    let low = c.loop-batch-test.true in
    let batch = c.batch-item.result in
    let columns = c.columns.result.now in
    let column = c.index-columns-number.result in
    let wide = typed_long sides.right_types.now _ (c.requires.sides.rights i batch low) in
    let size = ap (λ (b : BatchAt). length b.columns) c.batch-item.is in
    let within : number < length columns = omega (arith, c.requires.number, wide, size, ap length c.columns.ensures.columns) in
    let found = column_is batch number columns column c.columns.ensures.columns within c.index-columns-number.is in
    record {
      are = sources_more (λ one. one.now) number rights i batch c.loop-batch.sources.items c.push.new.self.items _ low c.batch-item.is c.in_ok-push.ensures.items found
          c.loop-batch.invariant.are;
      long = long_more number rights i batch low c.batch-item.is
          (ap (λ (one : ColumnAt). one.len) (sym found) ∙ ap (λ (one : ColumnAt). one.len) c.index-columns-number.is ∙ c.columns.ensures.long number column within)
          c.loop-batch.invariant.long;
    }

pub returns : goal.returns
returns c =
    let sides = c.args.self.now in
    let rights = sides.rights.now in
    let number = c.args.number in
    let i = c.loop-batch.batch-index in
    let past = c.loop-batch-test.false in
    right_have sides number _ c.requires.sides c.requires.number (c.loop-batch.invariant.are ∙ ap (map (of_number number)) (take_all i rights past))
    (λ k other low. c.loop-batch.invariant.long k other (omega (arith, low, past)))
