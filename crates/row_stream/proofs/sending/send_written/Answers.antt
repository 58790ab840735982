use Rattle.std.proofs.Common.{◌≡◌, length, refl, rules}
use Rattle.std.proofs.lemmas.Result.{err_from_is_err_and}
use Rattle.grpc_frame.proofs.Sending.{head_not_sent, second_not_sent, sent_behind}
use Rattle.row_stream.specs.inside.Frames.{as_message}
use Rattle.row_stream.proofs.Messages.{frame_parts}
use Rattle.row_stream.proofs.sending.send_written.Goals as goal

pub returns-in_err-send_announcement-clause-bytes : goal.returns-in_err-send_announcement-clause-bytes
returns-in_err-send_announcement-clause-bytes g c =
    let p = err_from_is_err_and c.from_residual.result c.from_residual.ensures.1 in
    let message = c.args.message.now in
    let long : c.len.result ≡ length message.header.items = search rules in
    let whole = frame_parts (as_message message) message.header.items message.body.items c.len.result refl long in
    rw (p.1, ← whole) (head_not_sent _ _ _ _ _ _ c.in_err-send_announcement.ensures.bytes)

pub returns-in_err-send_part-clause-bytes : goal.returns-in_err-send_part-clause-bytes
returns-in_err-send_part-clause-bytes g c =
    let p = err_from_is_err_and c.from_residual-in_err-send_part.result c.from_residual-in_err-send_part.ensures.1 in
    let message = c.args.message.now in
    let long : c.len.result ≡ length message.header.items = search rules in
    let whole = frame_parts (as_message message) message.header.items message.body.items c.len.result refl long in
    rw (p.1, ← whole)
    (second_not_sent _ _ _ _ _ _ _ _ c.in_ok-send_announcement.ensures.bytes (head_not_sent _ _ _ _ _ _ (rw c.deref.ensures.value at c.in_err-send_part.ensures.bytes)))

pub returns-clause-bytes : goal.returns-clause-bytes
returns-clause-bytes g c =
    let message = c.args.message.now in
    let long : c.len.result ≡ length message.header.items = search rules in
    let whole = frame_parts (as_message message) message.header.items message.body.items c.len.result refl long in
    rw (← whole)
    (sent_behind _ _ _ _ _ _ _ _ _ c.in_ok-send_announcement.ensures.bytes
    (sent_behind _ _ _ _ _ _ _ _ _ (rw c.deref.ensures.value at c.in_ok-send_part.ensures.bytes) (rw c.deref-2.ensures.value at c.send_part-2.ensures.bytes)))
