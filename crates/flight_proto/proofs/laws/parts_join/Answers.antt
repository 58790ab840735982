use Rattle.flight_proto.proofs.Joins.{parts_join}
use Rattle.flight_proto.proofs.laws.parts_join.Goals as goal

pub returns : goal.returns
returns c = parts_join
