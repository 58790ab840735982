use Rattle.std.proofs.lemmas.Result.{err_from_is_err_and}
use Rattle.client_calls.proofs.Calling.{called, not_called}
use Rattle.client_calls.proofs.connection.Connection.call_for_stream.Goals as goal

pub returns-in_err-send : goal.returns-in_err-send
returns-in_err-send g c =
    let p = err_from_is_err_and c.from_residual.result c.from_residual.ensures.1 in
    rw (p.1, p.2) (not_called _ _ _ _ _ _ c.requires.is_open c.in_err-send.ensures)

pub returns : goal.returns
returns g c = called _ _ _ _ _ _ _ c.in_ok-send.ensures c.receive_stream.ensures
