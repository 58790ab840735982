use Rattle.flight_proto.proofs.Heads.{bodies_follow_heads}
use Rattle.flight_proto.proofs.laws.bodies_follow_heads.Goals as goal

pub returns : goal.returns
returns c = bodies_follow_heads
