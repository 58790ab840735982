use Rattle.grpc_frame.proofs.Streams.{front_keeps}
use Rattle.grpc_frame.proofs.laws.fronts_keep_profile.Goals as goal

pub returns : goal.returns
returns c = front_keeps
