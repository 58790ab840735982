use Rattle.grpc_frame.proofs.Streams.{fault_stays}
use Rattle.grpc_frame.proofs.laws.faults_stay.Goals as goal

pub returns : goal.returns
returns c = fault_stays
