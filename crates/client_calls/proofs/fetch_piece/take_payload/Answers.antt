use Rattle.client_calls.proofs.Next.{payload_keeps}
use Rattle.client_calls.proofs.fetch_piece.take_payload.Goals as goal

pub returns-in-Ok-clause-kept : goal.returns-in-Ok-clause-kept
returns-in-Ok-clause-kept g c = payload_keeps _ _ c.in-Ok.batch _ c.in-Ok.ensures.exact
