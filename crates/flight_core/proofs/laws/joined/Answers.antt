use Rattle.flight_core.proofs.Joining.{joined}
use Rattle.flight_core.proofs.laws.joined.Goals as goal

pub returns : goal.returns
returns c = joined
