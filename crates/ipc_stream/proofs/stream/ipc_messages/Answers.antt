use Rattle.std.proofs.Common.{Ok, Err, drop, arith}
use Rattle.std.proofs.lemmas.List.{length-drop}
use Rattle.std.proofs.lemmas.Result.{err_from_is_err_and}
use Rattle.ipc_stream.proofs.Cuts.{parts_cut}
use Rattle.ipc_stream.proofs.Streams.{reached_stuck, reached_there, finds_there}
use Rattle.ipc_stream.proofs.stream.ipc_messages.Goals as goal

pub returns-in_err-frame-clause-exact : goal.returns-in_err-frame-clause-exact
returns-in_err-frame-clause-exact c =
    let stream = c.args.stream.now in
    let slice = c.as_slice-in-loop-messages.result.now in
    let at = c.loop-messages.at in
    let p = err_from_is_err_and c.from_residual-in_err-frame.result c.from_residual-in_err-frame.ensures.1 in
    let stuck = finds_there slice stream at (Err c.in_err-frame.field-0.0) c.as_slice-in-loop-messages.ensures c.in_err-frame.ensures in
    rw (p.1, p.2, stuck.0) (reached_stuck stream c.loop-messages.messages.items (drop at stream) c.loop-messages.invariant.reached stuck.1)

pub loop-messages-preserved : goal.loop-messages-preserved
loop-messages-preserved c =
    let stream = c.args.stream.now in
    let slice = c.as_slice-in-loop-messages.result.now in
    let at = c.loop-messages.at in
    let found = c.in-Some.frame in
    let finds = finds_there slice stream at (Ok c.in_ok-frame.field-0) c.as_slice-in-loop-messages.ensures c.in_ok-frame.ensures in
    let is = rw c.in-Some.is at finds in
    let within = is.within in
    record {
      within = omega (arith, c.loop-messages.invariant.within, length-drop at stream);
      reached = reached_there stream c.loop-messages.messages.items c.push.new.self.items c.in_ok-message_at.field-0 at found c.in_ok-push.ensures.items c.in_ok-message_at.ensures c.loop-messages.invariant.reached is;
    }

pub returns-clause-cuts : goal.returns-clause-cuts
returns-clause-cuts c = parts_cut c.args.stream.now c.loop-messages.messages.items (drop c.loop-messages.at c.args.stream.now) c.loop-messages.invariant.reached
