use Rattle.grpc_frame.proofs.Outgoing.{then_flushed}
use Rattle.flight_calls.proofs.answer.send_first.Goals as goal

pub returns-then-late : goal.returns-then-late
returns-then-late g c = then_flushed _ _ _ _ _ c.in_ok-send_payload.ensures c.flush.ensures.bytes
