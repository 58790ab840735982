use Rattle.flight_core.proofs.Saying.{handles_mean_one}
use Rattle.flight_core.proofs.laws.handles_mean_one.Goals as goal

pub returns : goal.returns
returns c = handles_mean_one
