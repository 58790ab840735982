use Rattle.std.proofs.lemmas.Result.{err_from_is_err_and}
use Rattle.row_stream.proofs.SoFar.{flushed_behind}
use Rattle.row_stream.proofs.sending.write_last.Goals as goal

pub returns-in_err-send_part-clause-bytes : goal.returns-in_err-send_part-clause-bytes
returns-in_err-send_part-clause-bytes g c =
    let p = err_from_is_err_and c.from_residual.result c.from_residual.ensures.1 in
    rw p.1 c.in_err-send_part.ensures.bytes.begun

pub returns-clause-bytes : goal.returns-clause-bytes
returns-clause-bytes g c = flushed_behind c.flush.result _ _ _ _ _ _ c.in_ok-send_part.ensures.bytes c.flush.ensures.bytes

pub returns-clause-counted : goal.returns-clause-counted
returns-clause-counted g c = rw (← c.in_ok-send_part.ensures.counted) c.flush.ensures.counted
