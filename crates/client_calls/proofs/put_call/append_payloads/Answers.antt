use Rattle.std.proofs.Common.{rules}
use Rattle.client_calls.proofs.Payloads.{one_more}
use Rattle.client_calls.proofs.put_call.append_payloads.Goals as goal

pub loop-message-preserved : goal.loop-message-preserved
loop-message-preserved c =
    one_more _ _ _ _ c.loop-message.message-index c.message-item.result _ (search rules) c.message-item.is (search rules) c.loop-message.invariant c.in_ok-push.ensures.items
