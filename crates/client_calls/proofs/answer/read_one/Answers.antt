use Rattle.std.proofs.lemmas.Result.{err_from_is_err_and}
use Rattle.client_calls.proofs.Ones.{first_stops, first_ends, first_answers, second_stops, second_more, second_ends, second_answers}
use Rattle.client_calls.proofs.answer.read_one.Goals as goal

pub returns-in_err-message-clause-answer : goal.returns-in_err-message-clause-answer
returns-in_err-message-clause-answer g c =
    let p = err_from_is_err_and c.from_residual.result c.from_residual.ensures.1 in
    rw (p.1, p.2) (first_stops _ _ _ _ _ c.next_arrival.new.inbox c.requires.place c.in_err-message.field-0.0 c.in_err-message.ensures.arrives)

pub returns-in-End-Ok-clause-answer : goal.returns-in-End-Ok-clause-answer
returns-in-End-Ok-clause-answer g c =
    let arrived = rw (c.in-End-Ok.is, c.in-End-Ok.field-0-is) at c.in_ok-message.ensures.arrives in
    first_ends _ _ _ _ _ _ c.requires.place arrived

pub returns-in-End-Err-clause-answer : goal.returns-in-End-Err-clause-answer
returns-in-End-Err-clause-answer g c =
    let arrived = rw (c.in-End-Err.is, c.in-End-Err.field-0-is) at c.in_ok-message.ensures.arrives in
    first_answers _ _ _ _ _ _ c.requires.place _ arrived

pub returns-in_err-next_arrival-clause-answer : goal.returns-in_err-next_arrival-clause-answer
returns-in_err-next_arrival-clause-answer g c =
    let first = rw c.in-Message.is at c.in_ok-message.ensures.arrives in
    let p = err_from_is_err_and c.from_residual-in_err-next_arrival.result c.from_residual-in_err-next_arrival.ensures.1 in
    rw (p.1, p.2) (second_stops _ _ _ _ _ _ _ _ c.next_arrival-2.new.inbox c.requires.place _ first c.in_err-next_arrival.field-0.0 c.in_err-next_arrival.ensures.arrives)

pub returns-in-Message-2-clause-answer : goal.returns-in-Message-2-clause-answer
returns-in-Message-2-clause-answer g c =
    let first = rw c.in-Message.is at c.in_ok-message.ensures.arrives in
    let behind = rw c.in-Message-2.is at c.in_ok-next_arrival.ensures.arrives in
    second_more _ _ _ _ _ _ _ _ _ c.requires.place _ first _ behind

pub returns-in-End-Ok-2-clause-answer : goal.returns-in-End-Ok-2-clause-answer
returns-in-End-Ok-2-clause-answer g c =
    let first = rw c.in-Message.is at c.in_ok-message.ensures.arrives in
    let behind = rw (c.in-End-Ok-2.is, c.in-End-Ok-2.field-0-is) at c.in_ok-next_arrival.ensures.arrives in
    second_ends _ _ _ _ _ _ _ _ _ c.requires.place _ first behind

pub returns-in-End-Err-2-clause-answer : goal.returns-in-End-Err-2-clause-answer
returns-in-End-Err-2-clause-answer g c =
    let first = rw c.in-Message.is at c.in_ok-message.ensures.arrives in
    let behind = rw (c.in-End-Err-2.is, c.in-End-Err-2.field-0-is) at c.in_ok-next_arrival.ensures.arrives in
    second_answers _ _ _ _ _ _ _ _ _ c.requires.place _ first _ behind
