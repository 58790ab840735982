use Rattle.std.proofs.Common.{refl}
use Rattle.std.proofs.lemmas.Result.{err_from_is_err_and}
use Rattle.flight_client.proofs.Arrivals.{glance_stops}
use Rattle.flight_client.proofs.stream_reader.StreamReader.message.Goals as goal

pub returns-in_err-glance-clause-exact : goal.returns-in_err-glance-clause-exact
returns-in_err-glance-clause-exact c =
    let p = err_from_is_err_and c.from_residual.result c.from_residual.ensures.1 in
    rw (p.1, p.2) (λ other. glance_stops _ _ _ (rw c.as_slice.ensures at c.in_err-glance.ensures), refl)
