use Rattle.flight_calls.proofs.Asking.{command_too_long, action_unread}
use Rattle.flight_calls.proofs.request.refusal_of.Goals as goal

pub returns-then-message-gt-MAX_REQUEST_LEN : goal.returns-then-message-gt-MAX_REQUEST_LEN
returns-then-message-gt-MAX_REQUEST_LEN c = command_too_long _ _ c.in-GetFlightInfo.is c.if-message-gt-MAX_REQUEST_LEN.true

pub returns-in-Err : goal.returns-in-Err
returns-in-Err c = action_unread _ _ c.in-Err.fault c.in-DoAction.is (rw c.in-Err.is at c.read_expiry.ensures)
