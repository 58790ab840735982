use Rattle.std.proofs.Common.{refl, Ok, Err}
use Rattle.std.proofs.lemmas.Result.{err_from_is_err_and}
use Rattle.client_calls.proofs.Taking.{next_place, next_message, next_status, next_open, next_end, next_none, next_stop}
use Rattle.client_calls.proofs.answer.next_arrival.Goals as goal

pub returns-in_err-message-clause-arrives : goal.returns-in_err-message-clause-arrives
returns-in_err-message-clause-arrives g c =
    let p = err_from_is_err_and c.from_residual.result c.from_residual.ensures.1 in
    rw (p.1, p.2) (next_stop _ _ _ _ _ _ c.requires.place c.in_err-message.field-0.0 c.in_err-message.ensures.arrives c.in_err-message.ensures.counted)

pub returns-in-Some-Message-clause-arrives : goal.returns-in-Some-Message-clause-arrives
returns-in-Some-Message-clause-arrives g c =
    let arrived = rw (c.in-Some-Message.is, c.in-Some-Message.field-0-is) at c.in_ok-message.ensures.arrives in
    next_message _ _ _ _ _ _ c.requires.place c.in-Some-Message.message arrived c.in_ok-message.ensures.counted

pub returns-in-Some-Status-clause-arrives : goal.returns-in-Some-Status-clause-arrives
returns-in-Some-Status-clause-arrives g c =
    let arrived = rw (c.in-Some-Status.is, c.in-Some-Status.field-0-is) at c.in_ok-message.ensures.arrives in
    next_status _ _ _ _ _ _ c.requires.place c.in-Some-Status.code c.in-Some-Status.text _ (rw c.as_str.ensures at c.status_end.ensures) arrived c.in_ok-message.ensures.counted

pub returns-in-Some-Open-clause-arrives : goal.returns-in-Some-Open-clause-arrives
returns-in-Some-Open-clause-arrives g c =
    let arrived = rw (c.in-Some-Open.is, c.in-Some-Open.field-0-is) at c.in_ok-message.ensures.arrives in
    absurd (next_open _ _ 0 0 _ _ c.requires.place _ arrived)

pub returns-in-Some-End-clause-arrives : goal.returns-in-Some-End-clause-arrives
returns-in-Some-End-clause-arrives g c =
    let arrived = rw (c.in-Some-End.is, c.in-Some-End.field-0-is) at c.in_ok-message.ensures.arrives in
    absurd (next_end _ _ 0 0 _ _ c.requires.place arrived)

pub returns-clause-arrives : goal.returns-clause-arrives
returns-clause-arrives g c =
    next_none _ _ _ _ _ _ c.requires.place (rw c.in-None.is at c.in_ok-message.ensures.arrives) ((rw c.in-None.is at c.in_ok-message.ensures.end) refl) c.in_ok-message.ensures.counted

pub returns-in_err-message-clause-place : goal.returns-in_err-message-clause-place
returns-in_err-message-clause-place g c = next_place _ _ 0 0 _ _ c.requires.place (Err c.in_err-message.field-0.0) c.in_err-message.ensures.arrives

pub returns-in-Some-Message-clause-place : goal.returns-in-Some-Message-clause-place
returns-in-Some-Message-clause-place g c = next_place _ _ 0 0 _ _ c.requires.place (Ok _) c.in_ok-message.ensures.arrives

pub returns-in-Some-Status-clause-place : goal.returns-in-Some-Status-clause-place
returns-in-Some-Status-clause-place g c = next_place _ _ 0 0 _ _ c.requires.place (Ok _) c.in_ok-message.ensures.arrives

pub returns-in-Some-Open-clause-place : goal.returns-in-Some-Open-clause-place
returns-in-Some-Open-clause-place g c = next_place _ _ 0 0 _ _ c.requires.place (Ok _) c.in_ok-message.ensures.arrives

pub returns-in-Some-End-clause-place : goal.returns-in-Some-End-clause-place
returns-in-Some-End-clause-place g c = next_place _ _ 0 0 _ _ c.requires.place (Ok _) c.in_ok-message.ensures.arrives

pub returns-clause-place : goal.returns-clause-place
returns-clause-place g c = next_place _ _ 0 0 _ _ c.requires.place (Ok _) c.in_ok-message.ensures.arrives
