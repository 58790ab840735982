use Rattle.grpc_frame.proofs.Outgoing.{then_flushed}
use Rattle.flight_calls.proofs.answer.send_given.Goals as goal

pub returns-then-slow : goal.returns-then-slow
returns-then-slow g c = then_flushed _ _ _ _ _ c.in_ok-send_parcel.ensures c.flush.ensures.bytes
