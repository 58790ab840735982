use Rattle.flight_core.proofs.Reacting.{expiry_unread, expiry_made, expiry_refused, marked_puts}
use Rattle.flight_core.proofs.steps.step_expiry.Goals as goal

pub returns-in-Err-clause-step : goal.returns-in-Err-clause-step
returns-in-Err-clause-step g c =
    rw c.refusal.ensures.reply (expiry_unread g.B.Backend.moves g.met.B.Backend.stays _ c.args.action.now c.in-Err.fault (rw c.in-Err.is at c.read_expiry.ensures))

pub returns-in-Ok-expire-clause-step : goal.returns-in-Ok-expire-clause-step
returns-in-Ok-expire-clause-step g c =
    expiry_made g.B.Backend.moves _ _ c.args.action.now c.in-Ok.version c.in-Ok-expire.floor (rw c.in-Ok-expire.is at c.expire.ensures) (rw c.in-Ok.is at c.read_expiry.ensures)

pub returns-in-Err-expire-clause-step : goal.returns-in-Err-expire-clause-step
returns-in-Err-expire-clause-step g c =
    rw c.refusal-in-Err-expire.ensures.reply (expiry_refused g.B.Backend.moves _ _ c.args.action.now c.in-Ok.version c.in-Err-expire.fault (rw c.in-Err-expire.is at c.expire.ensures) (rw c.in-Ok.is at c.read_expiry.ensures))

pub returns-in-Ok-expire-clause-puts : goal.returns-in-Ok-expire-clause-puts
returns-in-Ok-expire-clause-puts g c puts = marked_puts g.B.Backend.accepts c.expire.result _ _ c.expire.ensures.log c.in-Ok.version c.expire.ensures.marks puts

pub returns-in-Err-expire-clause-puts : goal.returns-in-Err-expire-clause-puts
returns-in-Err-expire-clause-puts g c puts = marked_puts g.B.Backend.accepts c.expire.result _ _ c.expire.ensures.log c.in-Ok.version c.expire.ensures.marks puts
