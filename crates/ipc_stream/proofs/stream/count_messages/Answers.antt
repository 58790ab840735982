use Rattle.std.proofs.Common.{[], ◌∷◌, ◌++◌, arith}
use Rattle.std.proofs.lemmas.Result.{err_from_is_err_and}
use Rattle.ipc_stream.specs.inside.Front.{message_at}
use Rattle.ipc_stream.proofs.Streams.{reached_slice, reached_stuck, rest_long}
use Rattle.ipc_stream.proofs.stream.count_messages.Goals as goal

pub returns-in_err-frame : goal.returns-in_err-frame
returns-in_err-frame c =
    let p = err_from_is_err_and c.from_residual.result c.from_residual.ensures.1 in
    let so_far = c.loop-frame.invariant.reached in
    rw (p.1, p.2) (c.in_err-frame.ensures.0, reached_stuck c.args.stream.now so_far.0 c.loop-frame.left.now so_far.1 c.in_err-frame.ensures.1)

pub loop-frame-preserved : goal.loop-frame-preserved
loop-frame-preserved c =
    let so_far = c.loop-frame.invariant.reached in
    let left = c.loop-frame.left.now in
    let found = c.in-Some.frame in
    let is = rw c.in-Some.is at c.in_ok-frame.ensures in
    let within = is.within in
    record {
      reached = (so_far.0 ++ (message_at left 0 found ∷ []), reached_slice c.args.stream.now so_far.0 left found so_far.1 is);
      counted = omega (arith, c.loop-frame.invariant.counted, rest_long left found.end);
    }
