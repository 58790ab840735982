use Rattle.std.proofs.Common.{arith}
use Rattle.fetch_stream.proofs.Stepping.{next_batch, waits}
use Rattle.fetch_stream.proofs.stream.refill.Goals as goal

pub returns-in-Given : goal.returns-in-Given
returns-in-Given c =
    rw c.new.ensures (next_batch c.batch_slices_keep_rows.ensures c.args.cutter.now c.args.source.now c.turn.new.self c.requires (omega (arith, c.if-cutter-rows.false, c.rows.ensures))
    c.in-Given.batch (rw (c.in_ok-batch.was, c.in-Given.is) at c.turn.ensures))

pub returns-in-Working : goal.returns-in-Working
returns-in-Working c =
    let none = rw (c.in_ok-batch.was, c.in-Working.is) at c.turn.ensures in
    (waits c.batch_slices_keep_rows.ensures c.args.cutter.now c.args.source.now c.turn.new.self c.requires (omega (arith, c.if-cutter-rows.false, c.rows.ensures)) none.0, none.1)
