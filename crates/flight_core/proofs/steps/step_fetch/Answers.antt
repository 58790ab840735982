use Rattle.flight_core.proofs.Fetching.{fetch_opened, fetch_refused, opened_shown}
use Rattle.flight_core.proofs.steps.step_fetch.Goals as goal

pub returns-in-Err-clause-step : goal.returns-in-Err-clause-step
returns-in-Err-clause-step g c =
    let seen = c.in-Err.ensures in
    rw c.refusal.ensures.reply (fetch_refused g.B.Backend.moves _ _ c.args.ticket.now c.args.workers c.in-Err.fault seen.learns seen.looked seen.asks seen.still seen.once seen.opens)

pub returns-in-Ok-clause-step : goal.returns-in-Ok-clause-step
returns-in-Ok-clause-step g c =
    let seen = c.in-Ok.ensures in
    fetch_opened g.B.Backend.moves _ _ c.args.ticket.now c.args.workers c.in-Ok.opening seen.learns seen.looked seen.asks seen.still seen.once seen.opens

pub returns-in-Ok-clause-shown : goal.returns-in-Ok-clause-shown
returns-in-Ok-clause-shown g c knows = opened_shown (g.B.Backend.seat c.open_on.new.backend).log c.args.ticket.now c.in-Ok.opening c.in-Ok.ensures.opens

pub returns-in-Err-clause-shown : goal.returns-in-Err-clause-shown
returns-in-Err-clause-shown g c knows = rw c.refusal.ensures.reply (c.in-Err.ensures.shown knows)
