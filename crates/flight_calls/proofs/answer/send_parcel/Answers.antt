use Rattle.std.proofs.Common.{rules, take_all}
use Rattle.std.proofs.lemmas.Result.{err_from_is_err_and}
use Rattle.grpc_frame.proofs.Outgoing.{none_sent}
use Rattle.flight_calls.proofs.Writing.{message_sent, parcel_stopped}
use Rattle.flight_calls.proofs.answer.send_parcel.Goals as goal

pub loop-payload-init : goal.loop-payload-init
loop-payload-init g c = none_sent _

pub loop-payload-preserved : goal.loop-payload-preserved
loop-payload-preserved g c =
    message_sent _ _ _ _ c.loop-payload.payload-index c.payload-item.result (search rules) c.payload-item.is c.loop-payload.invariant c.in_ok-send_payload.ensures

pub returns-in_err-send_payload : goal.returns-in_err-send_payload
returns-in_err-send_payload g c =
    let p = err_from_is_err_and c.from_residual.result c.from_residual.ensures.1 in
    let failed = c.in_err-send_payload.ensures in
    rw (p.1, p.2, ← c.payloads-payload-items.ensures) (failed.0, parcel_stopped _ _ _ _ c.loop-payload.payload-index c.payload-item.result (search rules) c.payload-item.is c.loop-payload.invariant failed.1)

pub returns : goal.returns
returns g c =
    rw (← c.payloads-payload-items.ensures) (rw (take_all c.loop-payload.payload-index c.payloads-payload-items.result.now (search rules)) at c.loop-payload.invariant)
