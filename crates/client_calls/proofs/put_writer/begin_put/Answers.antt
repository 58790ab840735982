use Rattle.std.proofs.lemmas.Result.{err_from_is_err_and}
use Rattle.client_calls.proofs.Puts.{begun_first, not_begun_first, stopped_first, unmade_first}
use Rattle.client_calls.proofs.put_writer.begin_put.Goals as goal

pub returns-in_err-check : goal.returns-in_err-check
returns-in_err-check g c =
    let p = err_from_is_err_and c.from_residual.result c.from_residual.ensures.1 in
    rw (p.1, p.2) (stopped_first _ _ _ c.in_err-check.ensures)

pub returns-in_err-begin_call-in-Ok : goal.returns-in_err-begin_call-in-Ok
returns-in_err-begin_call-in-Ok g c =
    let p = err_from_is_err_and c.from_residual-in_err-begin_call-in-Ok.result c.from_residual-in_err-begin_call-in-Ok.ensures.1 in
    rw (p.1, p.2) (not_begun_first _ _ _ _ c.in-Ok.ensures.0 _ _ _ c.new-outbox.ensures c.in_err-begin_call-in-Ok.ensures)

pub returns-in_ok-begin_call-in-Ok : goal.returns-in_ok-begin_call-in-Ok
returns-in_ok-begin_call-in-Ok g c =
    begun_first _ _ _ _ c.in-Ok.ensures.0 _ _ c.new-outbox.ensures c.in_ok-check.ensures c.in-Ok.ensures.1 c.in_ok-begin_call-in-Ok.ensures

pub returns-in-Err : goal.returns-in-Err
returns-in-Err g c = unmade_first _ _ _ _ c.in-Err.ensures c.stop.ensures
