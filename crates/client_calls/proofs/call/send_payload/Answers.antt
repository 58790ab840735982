use Rattle.std.proofs.lemmas.Result.{err_from_is_err_and}
use Rattle.client_calls.proofs.Sending.{head_failed, parts_sent}
use Rattle.client_calls.proofs.call.send_payload.Goals as goal

pub returns-in_err-send_message_head-clause-bytes : goal.returns-in_err-send_message_head-clause-bytes
returns-in_err-send_message_head-clause-bytes g c =
    let p = err_from_is_err_and c.from_residual.result c.from_residual.ensures.1 in
    rw p.1 (head_failed _ _ _ _ c.args.message.now _ c.len.ensures c.in_err-send_message_head.ensures.bytes)

pub returns-clause-bytes : goal.returns-clause-bytes
returns-clause-bytes g c =
    parts_sent _ _ _ _ _ _ _ c.deref.result.now c.as_slice.result.now c.args.message.now _ c.len.ensures (rw (c.deref.ensures.value, c.as_slice.ensures) c.message.view_is) c.in_ok-send_message_head.ensures.bytes c.send_parts.ensures.bytes
