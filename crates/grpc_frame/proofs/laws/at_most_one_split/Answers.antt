use Rattle.grpc_frame.proofs.Splitting.{at_most_one}
use Rattle.grpc_frame.proofs.laws.at_most_one_split.Goals as goal

pub returns : goal.returns
returns c = at_most_one
