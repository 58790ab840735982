use Rattle.proto_wire.proofs.Fronts.{at_most_one_front}
use Rattle.proto_wire.proofs.laws.at_most_one_front.Goals as goal

pub returns : goal.returns
returns c = at_most_one_front
