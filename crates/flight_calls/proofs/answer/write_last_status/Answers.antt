use Rattle.grpc_frame.proofs.Outgoing.{then_flushed}
use Rattle.flight_calls.proofs.answer.write_last_status.Goals as goal

pub returns-clause-bytes : goal.returns-clause-bytes
returns-clause-bytes g c = then_flushed _ _ _ _ _ c.in_ok-send_status.ensures.bytes c.flush.ensures.bytes
