use Rattle.proto_wire.proofs.Fronts.{front_law}
use Rattle.proto_wire.proofs.laws.front_keeps_standard.Goals as goal

pub returns : goal.returns
returns c = front_law
