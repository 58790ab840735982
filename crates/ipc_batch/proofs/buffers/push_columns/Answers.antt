use Rattle.std.proofs.Common.{◌+◌, drop, arith}
use Rattle.ipc_batch.proofs.WriterLoops.{dropped, length_more, length_front}
use Rattle.ipc_batch.proofs.buffers.push_columns.Goals as goal

pub push_column-requires : goal.push_column-requires
push_column-requires c =
    let columns = c.args.columns.now in
    let i = c.loop-column.column-index in
    let front = dropped columns i c.column-item.result (omega arith) c.column-item.is in
    omega (arith, length_more columns (drop (i + 1) columns) i c.column-item.result front, length_front columns i)
