use Rattle.std.proofs.Common.{rules, take_all}
use Rattle.std.proofs.lemmas.Result.{err_from_is_err_and}
use Rattle.client_calls.proofs.Sending.{open_not_sent, open_sent, message_sent, message_not_sent, end_sent, each_fits}
use Rattle.client_calls.proofs.call.send_call.Goals as goal

pub returns-in_err-send_open-clause-bytes : goal.returns-in_err-send_open-clause-bytes
returns-in_err-send_open-clause-bytes g c =
    let p = err_from_is_err_and c.from_residual.result c.from_residual.ensures.1 in
    rw p.1 (open_not_sent _ _ _ _ _ _ c.in_err-send_open.ensures.bytes)

pub loop-message-init : goal.loop-message-init
loop-message-init g c = record { sent = open_sent _ _ _ _ _ c.in_ok-send_open.ensures.bytes; count = c.in_ok-send_open.ensures.counted }

pub send_payload-requires-clause-short : goal.send_payload-requires-clause-short
send_payload-requires-clause-short g c = each_fits _ c.loop-message.message-index c.message-item.result (search rules) c.message-item.is c.requires.fit

pub loop-message-preserved : goal.loop-message-preserved
loop-message-preserved g c = record {
  sent = message_sent _ _ _ _ _ _ _ _ c.loop-message.message-index c.message-item.result (search rules) c.message-item.is c.loop-message.invariant.sent c.in_ok-send_payload.ensures.bytes;
  count = search rules;
}

pub returns-in_err-send_payload-clause-bytes : goal.returns-in_err-send_payload-clause-bytes
returns-in_err-send_payload-clause-bytes g c =
    let p = err_from_is_err_and c.from_residual-in_err-send_payload.result c.from_residual-in_err-send_payload.ensures.1 in
    rw p.1 (message_not_sent _ _ _ _ _ _ _ _ c.loop-message.message-index c.message-item.result (search rules) c.message-item.is c.loop-message.invariant.sent c.in_err-send_payload.ensures.bytes)

pub returns-clause-bytes : goal.returns-clause-bytes
returns-clause-bytes g c =
    end_sent _ _ _ _ _ _ _ _ _ (rw (take_all c.loop-message.message-index c.args.messages.now (search rules)) at c.loop-message.invariant.sent) c.send_part.ensures.bytes
