use Rattle.std.proofs.Common.{◌≡◌, length, rules}
use Rattle.std.proofs.lemmas.Result.{err_from_is_err_and}
use Rattle.grpc_frame.proofs.Sending.{head_not_sent, second_not_sent, sent_behind}
use Rattle.ipc_batch.specs.WrittenMessages.{body_of}
use Rattle.row_stream.proofs.Messages.{frame_parts}
use Rattle.row_stream.proofs.sending.send_frame.Goals as goal

pub returns-in_err-send_announcement-clause-bytes : goal.returns-in_err-send_announcement-clause-bytes
returns-in_err-send_announcement-clause-bytes g c =
    let p = err_from_is_err_and c.from_residual.result c.from_residual.ensures.1 in
    let ready = c.message.inside in
    let long : c.len.result ≡ length ready.header.items = search rules in
    let whole = frame_parts c.args.message.now ready.header.items (body_of ready.buffers.items) c.len.result c.message.view_is long in
    rw (p.1, ← whole) (head_not_sent _ _ _ _ _ _ c.in_err-send_announcement.ensures.bytes)

pub returns-in_err-send_part-clause-bytes : goal.returns-in_err-send_part-clause-bytes
returns-in_err-send_part-clause-bytes g c =
    let p = err_from_is_err_and c.from_residual-in_err-send_part.result c.from_residual-in_err-send_part.ensures.1 in
    let ready = c.message.inside in
    let long : c.len.result ≡ length ready.header.items = search rules in
    let whole = frame_parts c.args.message.now ready.header.items (body_of ready.buffers.items) c.len.result c.message.view_is long in
    rw (p.1, ← whole)
    (second_not_sent _ _ _ _ _ _ _ _ c.in_ok-send_announcement.ensures.bytes (head_not_sent _ _ _ _ _ _ (rw c.deref.ensures.value at c.in_err-send_part.ensures.bytes)))

pub returns-clause-bytes : goal.returns-clause-bytes
returns-clause-bytes g c =
    let ready = c.message.inside in
    let long : c.len.result ≡ length ready.header.items = search rules in
    let whole = frame_parts c.args.message.now ready.header.items (body_of ready.buffers.items) c.len.result c.message.view_is long in
    rw (← whole)
    (sent_behind _ _ _ _ _ _ _ _ _ c.in_ok-send_announcement.ensures.bytes
    (sent_behind _ _ _ _ _ _ _ _ _ (rw c.deref.ensures.value at c.in_ok-send_part.ensures.bytes) (rw c.deref-2.ensures.value at c.send_body.ensures.bytes)))
