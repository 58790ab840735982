use Rattle.std.proofs.Common.{◌≡◌, take}
use Rattle.grpc_frame.specs.Sending.{Sent}
use Rattle.client_calls.proofs.Sending.{front_bytes}
use Rattle.client_calls.proofs.call.send_call.Given as goal

-- the Open and the messages so far were sent
abbrev pub invariant-loop-message : goal.invariant-loop-message
invariant-loop-message g l = record {
  sent : Sent (g.W.Output.contents l.fn.writer) (g.W.Output.contents l.writer) l.fn.outbox l.outbox (front_bytes l.fn.method (take l.message-index l.messages));
  count : g.W.Output.failures l.writer ≡ g.W.Output.failures l.fn.writer;
}
