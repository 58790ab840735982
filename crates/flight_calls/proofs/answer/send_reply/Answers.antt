use Rattle.std.proofs.Common.{rules, take_all}
use Rattle.std.proofs.lemmas.Result.{err_from_is_err_and}
use Rattle.grpc_frame.proofs.Outgoing.{none_sent}
use Rattle.flight_calls.proofs.Writing.{message_sent, message_not_sent, status_sent, each_fits}
use Rattle.flight_calls.proofs.answer.send_reply.Goals as goal

pub loop-payload-init : goal.loop-payload-init
loop-payload-init g c = none_sent _

pub send_message-requires : goal.send_message-requires
send_message-requires g c =
    let payloads = c.deref-payload-items.ensures.value in
    rw c.as_slice.ensures (each_fits _ c.loop-payload.payload-index c.payload-item.result (search rules) c.payload-item.is (rw payloads (rw (← c.reply.view_is) at c.requires)))

pub loop-payload-preserved : goal.loop-payload-preserved
loop-payload-preserved g c =
    message_sent _ _ _ _ c.loop-payload.payload-index c.payload-item.result (search rules) c.payload-item.is c.loop-payload.invariant (rw c.as_slice.ensures at c.in_ok-send_message.ensures)

pub returns-in_err-send_message : goal.returns-in_err-send_message
returns-in_err-send_message g c =
    let p = err_from_is_err_and c.from_residual.result c.from_residual.ensures.1 in
    let payloads = c.deref-payload-items.ensures.value in
    let failed = rw c.as_slice.ensures at c.in_err-send_message.ensures in
    rw (p.1, p.2, ← c.reply.view_is, ← payloads) (failed.0, message_not_sent _ _ _ _ _ c.loop-payload.payload-index c.payload-item.result (search rules) c.payload-item.is c.loop-payload.invariant failed.1)

pub returns : goal.returns
returns g c =
    let payloads = c.deref-payload-items.ensures.value in
    rw (← c.reply.view_is, ← payloads) (status_sent _ _ _ _ _ _ (rw (take_all c.loop-payload.payload-index c.deref-payload-items.result.now (search rules)) at c.loop-payload.invariant) c.send_status.ensures.bytes)
