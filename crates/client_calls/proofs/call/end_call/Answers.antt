use Rattle.std.proofs.lemmas.Result.{err_from_is_err_and}
use Rattle.client_calls.proofs.Puts.{end_not_sent, end_written}
use Rattle.client_calls.proofs.call.end_call.Goals as goal

pub returns-in_err-send_part-clause-bytes : goal.returns-in_err-send_part-clause-bytes
returns-in_err-send_part-clause-bytes g c start bytes sent =
    let p = err_from_is_err_and c.from_residual.result c.from_residual.ensures.1 in
    rw p.1 (end_not_sent _ _ _ _ _ _ sent c.in_err-send_part.ensures.bytes)

pub returns-clause-bytes : goal.returns-clause-bytes
returns-clause-bytes g c start bytes sent =
    end_written c.flush.result _ _ _ _ _ _ _ sent c.in_ok-send_part.ensures.bytes c.flush.ensures.bytes
