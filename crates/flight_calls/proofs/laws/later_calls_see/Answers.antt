use Rattle.flight_calls.proofs.Joining.{later_calls_see}
use Rattle.flight_calls.proofs.laws.later_calls_see.Goals as goal

pub returns : goal.returns
returns g c = later_calls_see g.B.Backend.moves
