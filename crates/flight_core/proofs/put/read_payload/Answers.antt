use Rattle.std.proofs.lemmas.Result.{err_from_is_err_and}
use Rattle.flight_core.proofs.Arriving.{message_stops}
use Rattle.flight_core.proofs.Storing.{read_storable}
use Rattle.flight_core.proofs.put.read_payload.Goals as goal

pub returns-clause-stored : goal.returns-clause-stored
returns-clause-stored c = read_storable c.message.result c.args.reader.now _ _ c.message.ensures.exact c.message.ensures.columns

pub returns-in_err-glance-clause-told : goal.returns-in_err-glance-clause-told
returns-in_err-glance-clause-told c =
    let p = err_from_is_err_and c.from_residual.result c.from_residual.ensures.1 in
    rw (p.1, p.2) (λ other. message_stops _ _ _ (rw c.as_slice.ensures at c.in_err-glance.ensures))
