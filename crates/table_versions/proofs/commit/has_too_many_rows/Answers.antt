use Rattle.std.proofs.Common.{◌<◌, ◌+◌, arith, length}
use Rattle.std.specs.List.{flat_map}
use Rattle.arrays.specs.Batch.{rows_of}
use Rattle.scan_base.specs.Limits.{most_rows}
use Rattle.table_versions.proofs.Rowing.{rows-from}
use Rattle.table_versions.proofs.commit.has_too_many_rows.Goals as goal

pub returns-then-rows-total : goal.returns-then-rows-total
returns-then-rows-total c =
    let more = rows-from c.args.batches.now c.batch-item.result c.loop-batch.batch-index c.loop-batch-test.true c.batch-item.is in
    let over : most_rows < c.args.stored + length (flat_map rows_of c.args.batches.now) =
    omega (arith, c.loop-batch.invariant.counted, c.loop-batch.invariant.few, more, c.rows.ensures, c.if-rows-total.true) in
    grind (arith, over)

pub loop-batch-preserved : goal.loop-batch-preserved
loop-batch-preserved c =
    let more = rows-from c.args.batches.now c.batch-item.result c.loop-batch.batch-index c.loop-batch-test.true c.batch-item.is in record {
      few = omega (arith, c.loop-batch.invariant.few, c.rows.ensures, c.rows-total.ensures, c.if-rows-total.false);
      counted = omega (arith, c.loop-batch.invariant.counted, more, c.rows-total.ensures);
    }
