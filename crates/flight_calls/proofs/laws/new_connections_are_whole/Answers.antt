use Rattle.flight_calls.proofs.New.{new_whole}
use Rattle.flight_calls.proofs.laws.new_connections_are_whole.Goals as goal

pub returns : goal.returns
returns g c = new_whole g.B.Backend.moves
