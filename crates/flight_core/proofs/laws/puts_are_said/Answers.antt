use Rattle.flight_core.proofs.Saying.{puts_are_said}
use Rattle.flight_core.proofs.laws.puts_are_said.Goals as goal

pub returns : goal.returns
returns c = puts_are_said
