use Rattle.flight_proto.proofs.Names.{name_law}
use Rattle.flight_proto.proofs.laws.name_is_last_part.Goals as goal

pub returns : goal.returns
returns c = name_law
