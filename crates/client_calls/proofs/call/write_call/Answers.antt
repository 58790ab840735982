use Rattle.std.proofs.Common.{rules}
use Rattle.client_calls.proofs.Sending.{sent_written}
use Rattle.client_calls.proofs.call.write_call.Goals as goal

pub returns : goal.returns
returns g c =
    sent_written _ _ _ _ _ _ _ _ _ _ _ (c.all_fit.ensures.yes (search rules)) c.new-outbox.ensures c.in_ok-send_call.ensures.bytes c.in_ok-send_call.ensures.counted c.flush.ensures.bytes c.flush.ensures.counted c.flush.ensures.kind
