use Rattle.std.proofs.Common.{◌+◌, drop, arith}
use Rattle.ipc_batch.proofs.WriterLoops.{dropped, length_more, length_front}
use Rattle.ipc_batch.proofs.sized_batch.append_columns.Goals as goal

pub append_column-requires : goal.append_column-requires
append_column-requires c =
    let columns = c.args.columns.now in
    let i = c.loop-column.column-index in
    let front = dropped columns i c.column-item.result (omega arith) c.column-item.is in
    omega (arith, length_more columns (drop (i + 1) columns) i c.column-item.result front, length_front columns i)
