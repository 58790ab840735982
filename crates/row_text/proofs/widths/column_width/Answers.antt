use Rattle.std.proofs.Common.{◌≡◌, ◌<◌, length, sym, ap, subst, ◌∙◌}
use Rattle.arrays.specs.Batch.{BatchAt}
use Rattle.arrays.specs.Column.{ColumnAt}
use Rattle.row_text.proofs.Widest.{batch_more}
use Rattle.row_text.proofs.widths.column_width.Goals as goal

pub loop-batch-preserved : goal.loop-batch-preserved
loop-batch-preserved c =
    let batch = c.batch-item.result in
    let number = c.args.number in
    let column = c.index-columns-number.result in
    let within : number < length batch.columns =
    subst (λ (one : BatchAt). number < length one.columns) (sym c.batch-item.is) (c.requires c.loop-batch.batch-index batch c.loop-batch-test.true) in
    let is = rw c.columns-columns.ensures.columns at c.index-columns-number.is in
    let long : column.len ≡ batch.rows =
    ap (λ (one : ColumnAt). one.len) is ∙ (rw c.columns-columns.ensures.columns at c.columns-columns.ensures.long) number column within in
    batch_more c.args.field.now.data_type number _ c.loop-batch.widest c.widest_of_column-widest.result c.loop-batch.batch-index c.args.batches.now batch column
    c.loop-batch-test.true c.batch-item.is within is long c.widest_of_column-widest.ensures c.loop-batch.invariant
