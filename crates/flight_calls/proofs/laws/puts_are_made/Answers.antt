use Rattle.flight_calls.proofs.Making.{puts_made}
use Rattle.flight_calls.proofs.laws.puts_are_made.Goals as goal

pub returns : goal.returns
returns g c = puts_made g.B.Backend.moves
