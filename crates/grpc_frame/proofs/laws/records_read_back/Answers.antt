use Rattle.grpc_frame.proofs.Again.{front_again}
use Rattle.grpc_frame.proofs.laws.records_read_back.Goals as goal

pub returns : goal.returns
returns c = front_again
