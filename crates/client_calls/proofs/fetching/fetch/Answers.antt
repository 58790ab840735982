use Rattle.std.proofs.lemmas.Result.{err_from_is_err_and}
use Rattle.client_calls.proofs.Calling.{stopped_before, no_memory}
use Rattle.client_calls.proofs.fetching.fetch.Goals as goal

pub returns-in_err-check : goal.returns-in_err-check
returns-in_err-check g c =
    let p = err_from_is_err_and c.from_residual.result c.from_residual.ensures.1 in
    rw (p.1, p.2) (stopped_before _ _ _ _ _ c.in_err-check.ensures)

pub returns-in_err-payloads : goal.returns-in_err-payloads
returns-in_err-payloads g c =
    let p = err_from_is_err_and c.from_residual-in_err-payloads.result c.from_residual-in_err-payloads.ensures.1 in
    rw (p.1, p.2) (no_memory _ _ _ _ c.in_ok-check.ensures)
