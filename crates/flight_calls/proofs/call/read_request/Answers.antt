use Rattle.std.proofs.Common.{refl, rules, [], ◌∷◌, ◌++◌}
use Rattle.std.proofs.lemmas.Result.{err_from_is_err_and}
use Rattle.flight_calls.proofs.Taking.{since, collected_none, collected_more, collected_end, collected_cut, collected_stop}
use Rattle.flight_calls.proofs.call.read_request.Goals as goal

pub loop-request-init : goal.loop-request-init
loop-request-init g c = record { gathered = ([], collected_none _ _ c.requires.inside, c.at-request.ensures); count = refl; fewer = search rules }

pub returns-in_err-found-clause-arrives : goal.returns-in_err-found-clause-arrives
returns-in_err-found-clause-arrives g c =
    let p = err_from_is_err_and c.from_residual.result c.from_residual.ensures.1 in
    rw (p.1, p.2) (collected_stop _ _ _ _ _ c.next_from.new.self _ c.loop-request.invariant.gathered.1 c.args.path.now c.in_err-found.field-0.0 (since _ _ _ _ _ c.in_err-found.ensures.arrives))

pub returns-in_default-clause-arrives : goal.returns-in_default-clause-arrives
returns-in_default-clause-arrives g c = collected_cut _ _ _ _ _ _ _ c.loop-request.invariant.gathered.1 c.args.path.now (since _ _ _ _ _ (rw c.in_default.is at c.in_ok-found.ensures.arrives))

pub returns-in_default-message_of-clause-arrives : goal.returns-in_default-message_of-clause-arrives
returns-in_default-message_of-clause-arrives g c =
    let gathered = c.loop-request.invariant.gathered in
    collected_end _ _ _ _ _ _ _ gathered.1 _ _ gathered.2 c.in-Some.found c.in_default-message_of.ensures (since _ _ _ _ _ (rw c.in-Some.is at c.in_ok-found.ensures.arrives))

pub loop-request-preserved : goal.loop-request-preserved
loop-request-preserved g c =
    let arrived = rw (c.in-Some.is, c.in-Some-message_of.ensures) at c.in_ok-found.ensures.arrives in
    let gathered = c.loop-request.invariant.gathered in
    let message = c.in-Some-message_of.message in
    let more = collected_more _ _ _ _ _ _ _ gathered.1 message (since _ _ _ _ _ arrived) in
    record { gathered = (gathered.0 ++ message ∷ [], more, c.push.ensures _ _ gathered.2); count = search rules; fewer = search rules }
