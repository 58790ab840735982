use Rattle.std.proofs.Common.{arith}
use Rattle.array_buffers.specs.ColumnBuffers.{buffers_written as column_written}
use Rattle.ipc_batch.proofs.WriterLoops.{buffer_more, length_added}
use Rattle.ipc_batch.proofs.sized_batch.measure_column.Goals as goal

pub returns-in_default-buffer_end-clause-end : goal.returns-in_default-buffer_end-clause-end
returns-in_default-buffer_end-clause-end c =
    let more = buffer_more (column_written c.args.column.now) c.loop-index.index (omega arith) in
    let long = c.in-Some.ensures.1 in
    λ small. c.in_default-buffer_end.ensures (omega (arith, more, long, c.loop-index.invariant.all))

pub loop-index-preserved : goal.loop-index-preserved
loop-index-preserved c =
    let buffers = column_written c.args.column.now in
    let i = c.loop-index.index in
    let more = buffer_more buffers i (omega arith) in
    let long = c.in-Some.ensures.1 in
    let next = c.in-Some-buffer_end.ensures in
    record {
      low = omega (arith, next.0, next.1);
      all = omega (arith, more, long, c.loop-index.invariant.all, next.1);
      each = length_added c.loop-index.lengths.items c.push.new.self.items buffers i c.in-Some.length _ (omega arith) long c.in_ok-push.ensures.items c.loop-index.invariant.each;
    }
