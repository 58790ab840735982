use Rattle.std.proofs.Common.{sym, subst}
use Rattle.std.proofs.lemmas.Result.{err_from_is_err_and}
use Rattle.client_calls.specs.Sending.{IsPutWriter, PutAt}
use Rattle.client_calls.proofs.Puts.{not_made_more, not_sent_more, not_stopped, sent_more}
use Rattle.client_calls.proofs.put_writer.PutWriter.send.Goals as goal

pub returns-in_err-check-clause-sent : goal.returns-in_err-check-clause-sent
returns-in_err-check-clause-sent g c messages begun putting =
    absurd (not_stopped messages begun _ _ (subst {A = PutAt} (λ (p : PutAt). IsPutWriter messages begun p) (sym c.self.view_is) putting) c.in_err-check.ensures)

pub returns-in_err-send_message-clause-sent : goal.returns-in_err-send_message-clause-sent
returns-in_err-send_message-clause-sent g c messages begun putting =
    let p = err_from_is_err_and c.from_residual-in_err-send_message.result c.from_residual-in_err-send_message.ensures.1 in
    let now = subst {A = PutAt} (λ (p : PutAt). IsPutWriter messages begun p) (sym c.self.view_is) putting in
    rw (p.1, p.2) (not_sent_more messages begun _ now _ _ _ _ c.in-Ok.ensures.0 _ c.in_err-send_message.ensures)

pub returns-clause-sent : goal.returns-clause-sent
returns-clause-sent g c messages begun putting =
    let now = subst {A = PutAt} (λ (p : PutAt). IsPutWriter messages begun p) (sym c.self.view_is) putting in
    sent_more messages begun _ now _ _ _ _ c.in-Ok.ensures.0 c.in-Ok.ensures.1 c.in_ok-send_message.ensures

pub returns-in-Err-clause-sent : goal.returns-in-Err-clause-sent
returns-in-Err-clause-sent g c messages begun putting =
    let now = subst {A = PutAt} (λ (p : PutAt). IsPutWriter messages begun p) (sym c.self.view_is) putting in
    not_made_more messages begun _ now _ _ c.self.inside.outbox c.in-Err.fault c.in-Err.ensures c.stop.ensures
