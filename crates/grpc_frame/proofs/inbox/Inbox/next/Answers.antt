use Rattle.grpc_frame.proofs.Streams.{next_keeps}
use Rattle.grpc_frame.proofs.inbox.Inbox.next.Goals as goal

pub returns-clause-profile : goal.returns-clause-profile
returns-clause-profile c = next_keeps _ _ _ c.take_front.ensures.bytes c.take_front.ensures.front
