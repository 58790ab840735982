use Rattle.std.proofs.Common.{◌<◌, length, arith}
use Rattle.csv_input.proofs.Lengthy.{long_text}
use Rattle.csv_input.proofs.cells.texts_fit.Goals as goal

pub returns-then-bytes-left-clause-long : goal.returns-then-bytes-left-clause-long
returns-then-bytes-left-clause-long c = λ _.
    long_text c.args.cells.now c.loop-cell.cell-index c.loop-cell.left _ c.text_bytes-bytes.result.now c.text_bytes-bytes.ensures c.loop-cell-test.true c.loop-cell.invariant c.if-bytes-left.true
