use Rattle.std.proofs.lemmas.Result.{err_from_is_err_and}
use Rattle.grpc_frame.proofs.Sending.{head_not_sent, sent_behind}
use Rattle.row_text.proofs.line_format.send_name_line.Goals as goal

pub returns-in_err-send_spelled-clause-bytes : goal.returns-in_err-send_spelled-clause-bytes
returns-in_err-send_spelled-clause-bytes g c =
    let p = err_from_is_err_and c.from_residual.result c.from_residual.ensures.1 in
    rw p.1 (head_not_sent _ _ _ _ _ _ c.in_err-send_spelled.ensures.bytes)

pub returns-clause-bytes : goal.returns-clause-bytes
returns-clause-bytes g c = sent_behind _ _ _ _ _ _ _ _ _ c.in_ok-send_spelled.ensures.bytes c.send_part.ensures.bytes
