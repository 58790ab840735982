use Rattle.proto_wire.proofs.Written.{chunks_follow_heads}
use Rattle.proto_wire.proofs.laws.chunks_follow_heads.Goals as goal

pub returns : goal.returns
returns c = chunks_follow_heads
