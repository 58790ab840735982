use Rattle.std.proofs.Common.{ap, length, arith}
use Rattle.arrays.proofs.Rest.{joined_more}
use Rattle.array_buffers.proofs.buffer_writing.summed_length.Goals as goal

pub returns-then-length : goal.returns-then-length
returns-then-length c = λ short.
    let more = joined_more c.args.column.now c.loop-place.place (omega arith) in
    omega (arith, more, ap length c.text_at.ensures, c.loop-place.invariant.all)

pub loop-place-preserved : goal.loop-place-preserved
loop-place-preserved c =
    let more = joined_more c.args.column.now c.loop-place.place (omega arith) in
    record { low = omega arith; all = omega (arith, more, ap length c.text_at.ensures, c.loop-place.invariant.all) }
