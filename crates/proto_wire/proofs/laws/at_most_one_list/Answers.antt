use Rattle.proto_wire.proofs.Lists.{at_most_one_list}
use Rattle.proto_wire.proofs.laws.at_most_one_list.Goals as goal

pub returns : goal.returns
returns c = at_most_one_list
