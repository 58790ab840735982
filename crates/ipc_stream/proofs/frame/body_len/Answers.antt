use Rattle.std.proofs.Common.{◌<◌, arith}
use Rattle.std.proofs.lemmas.List.Elements.{All-from_get_or}
use Rattle.std.proofs.lemmas.Result.{err_from_is_err_and}
use Rattle.ipc_stream.proofs.Claims.{reads_body, unread}
use Rattle.ipc_stream.proofs.frame.body_len.Goals as goal

pub returns-in_err-len : goal.returns-in_err-len
returns-in_err-len c =
    let header = c.args.header.now in
    let p = err_from_is_err_and c.from_residual-in_err-len.result c.from_residual-in_err-len.ensures.1 in
    rw (p.1, p.2) (unread header c.in_ok-message.message c.in_err-len.field-0.0 (All-from_get_or (λ byte. byte < 256) header 0 (λ i lt. omega (arith, c.type_inv.header i))) c.in_ok-message.ensures c.in_err-len.ensures.value)

pub returns : goal.returns
returns c = reads_body c.args.header.now c.in_ok-message.message c.in_ok-len.len c.in_ok-message.ensures c.in_ok-len.ensures.value (omega arith)
