use Rattle.flight_proto.proofs.ReadsBack.{fields_back}
use Rattle.flight_proto.proofs.laws.fields_read_back.Goals as goal

pub returns : goal.returns
returns c = fields_back
