use Rattle.std.proofs.Common.{None}
use Rattle.std.proofs.lemmas.Result.{err_from_is_err_and}
use Rattle.grpc_frame.specs.Calls.{status_of}
use Rattle.flight_proto.specs.Expiry.{floor_bytes}
use Rattle.flight_core.proofs.Expiring.{floor_fits}
use Rattle.flight_calls.proofs.Writing.{one_sent, one_not_sent}
use Rattle.flight_calls.proofs.answer.send_floor.Goals as goal

pub send_message-requires : goal.send_message-requires
send_message-requires g c = rw c.floor_message.ensures (floor_fits c.args.floor)

pub returns-in_err-send_message : goal.returns-in_err-send_message
returns-in_err-send_message g c =
    let p = err_from_is_err_and c.from_residual.result c.from_residual.ensures.1 in
    let failed = rw c.floor_message.ensures at c.in_err-send_message.ensures in
    rw (p.1, p.2) (failed.0, one_not_sent _ _ (floor_bytes c.args.floor) (status_of None) failed.1)

pub returns : goal.returns
returns g c =
    one_sent _ _ _ _ (floor_bytes c.args.floor) (status_of None) (rw c.floor_message.ensures at c.in_ok-send_message.ensures) c.send_status.ensures.bytes
