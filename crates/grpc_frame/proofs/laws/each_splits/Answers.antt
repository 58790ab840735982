use Rattle.grpc_frame.proofs.Splitting.{each_one}
use Rattle.grpc_frame.proofs.laws.each_splits.Goals as goal

pub returns : goal.returns
returns c = each_one
