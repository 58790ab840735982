use Rattle.proto_wire.proofs.Lists.{list_law}
use Rattle.proto_wire.proofs.laws.reading_keeps_standard.Goals as goal

pub returns : goal.returns
returns c = list_law
