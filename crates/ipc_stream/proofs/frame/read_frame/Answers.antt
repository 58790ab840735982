use Rattle.std.proofs.Common.{arith}
use Rattle.std.proofs.lemmas.Result.{err_from_is_err_and}
use Rattle.ipc_stream.proofs.Fronts.{header_unread, found_there}
use Rattle.ipc_stream.proofs.frame.read_frame.Goals as goal

pub returns-in_err-body_len : goal.returns-in_err-body_len
returns-in_err-body_len c =
    let p = err_from_is_err_and c.from_residual-in_err-body_len.result c.from_residual-in_err-body_len.ensures.1 in
    rw (p.1, p.2) (c.in_err-body_len.ensures.0, header_unread c.args.bytes.now c.in-Some.header_len (rw c.in-Some.is at c.in_ok-header_len.ensures) c.in_err-body_len.ensures.1)

pub returns : goal.returns
returns c = found_there c.args.bytes.now c.in-Some.header_len c.in_ok-body_len.body_len (rw c.in-Some.is at c.in_ok-header_len.ensures) (omega arith) c.in_ok-body_len.ensures (omega arith)
