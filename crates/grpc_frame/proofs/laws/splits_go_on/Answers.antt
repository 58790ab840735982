use Rattle.grpc_frame.proofs.Splitting.{splits_join}
use Rattle.grpc_frame.proofs.laws.splits_go_on.Goals as goal

pub returns : goal.returns
returns c = splits_join
