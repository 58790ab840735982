use Rattle.std.proofs.Common.{rules}
use Rattle.std.proofs.lemmas.Result.{err_from_is_err_and}
use Rattle.flight_calls.proofs.Taking.{since, first_stops, first_cut, call_whole, call_cut, call_stops}
use Rattle.flight_calls.proofs.call.read_call.Goals as goal

pub returns-in_err-found-clause-arrives : goal.returns-in_err-found-clause-arrives
returns-in_err-found-clause-arrives g c =
    let p = err_from_is_err_and c.from_residual.result c.from_residual.ensures.1 in
    rw (p.1, p.2) (first_stops _ _ _ c.next_from.new.self c.in_err-found.field-0.0 (since _ _ _ _ _ c.in_err-found.ensures.arrives))

pub returns-in_default-clause-arrives : goal.returns-in_default-clause-arrives
returns-in_default-clause-arrives g c = first_cut _ _ _ _ c.requires.between (search rules) (since _ _ _ _ _ (rw c.in_default.is at c.in_ok-found.ensures.arrives))

pub returns-in_err-request-clause-arrives : goal.returns-in_err-request-clause-arrives
returns-in_err-request-clause-arrives g c =
    let p = err_from_is_err_and c.from_residual-in_err-request.result c.from_residual-in_err-request.ensures.1 in
    let arrived = rw (c.in-Some.is, c.in-Some-path_of.ensures) at c.in_ok-found.ensures.arrives in
    rw (p.1, p.2) (call_stops _ _ _ _ _ c.read_request.new.inbox _ c.requires.between (since _ _ _ _ _ arrived) c.in_err-request.field-0.0 c.in_err-request.ensures.arrives)

pub returns-in-Some-2-clause-arrives : goal.returns-in-Some-2-clause-arrives
returns-in-Some-2-clause-arrives g c =
    let arrived = rw (c.in-Some.is, c.in-Some-path_of.ensures) at c.in_ok-found.ensures.arrives in
    call_whole _ _ _ _ _ _ _ c.requires.between (since _ _ _ _ _ arrived) c.in-Some-2.request (rw (c.in-Some-2.is, c.as_slice.ensures) at c.in_ok-request.ensures.arrives)

pub returns-clause-arrives : goal.returns-clause-arrives
returns-clause-arrives g c =
    let arrived = rw (c.in-Some.is, c.in-Some-path_of.ensures) at c.in_ok-found.ensures.arrives in
    call_cut _ _ _ _ _ c.read_request.new.inbox _ c.requires.between (since _ _ _ _ _ arrived) (rw c.in-None.is at c.in_ok-request.ensures.arrives)
