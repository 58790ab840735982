use Rattle.std.proofs.Common.{rules}
use Rattle.flight_proto.proofs.Names.{name_by_split}
use Rattle.flight_proto.proofs.any.Any.message_name.Goals as goal

pub returns : goal.returns
returns c = rw (name_by_split _ _ c.rsplit_once.ensures.cases) (grind rules)

pub returns-in_err-name : goal.returns-in_err-name
returns-in_err-name c = rw (name_by_split _ _ c.rsplit_once.ensures.cases) (grind rules)
