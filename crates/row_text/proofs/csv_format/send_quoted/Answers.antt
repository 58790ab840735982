use Rattle.std.proofs.lemmas.Result.{err_from_is_err_and}
use Rattle.grpc_frame.proofs.Sending.{head_not_sent, second_not_sent, sent_behind}
use Rattle.row_text.proofs.Quoting.{quoted_is}
use Rattle.row_text.proofs.csv_format.send_quoted.Goals as goal

pub returns-in_err-send_part-clause-bytes : goal.returns-in_err-send_part-clause-bytes
returns-in_err-send_part-clause-bytes g c =
    let p = err_from_is_err_and c.from_residual.result c.from_residual.ensures.1 in
    rw (p.1, quoted_is c.args.text.now) (head_not_sent _ _ _ _ _ _ c.in_err-send_part.ensures.bytes)

pub returns-in_err-send_spelled-clause-bytes : goal.returns-in_err-send_spelled-clause-bytes
returns-in_err-send_spelled-clause-bytes g c =
    let p = err_from_is_err_and c.from_residual-in_err-send_spelled.result c.from_residual-in_err-send_spelled.ensures.1 in
    rw (p.1, quoted_is c.args.text.now) (second_not_sent _ _ _ _ _ _ _ _ c.in_ok-send_part.ensures.bytes (head_not_sent _ _ _ _ _ _ c.in_err-send_spelled.ensures.bytes))

pub returns-clause-bytes : goal.returns-clause-bytes
returns-clause-bytes g c =
    rw (quoted_is c.args.text.now)
    (sent_behind _ _ _ _ _ _ _ _ _ c.in_ok-send_part.ensures.bytes
    (sent_behind _ _ _ _ _ _ _ _ _ c.in_ok-send_spelled.ensures.bytes c.send_part-2.ensures.bytes))
