use Rattle.flight_calls.proofs.Joining.{seats_meet_joined}
use Rattle.flight_calls.proofs.laws.seats_meet_joined.Goals as goal

pub returns : goal.returns
returns g c = seats_meet_joined c.joined.ensures g.B.Backend.moves
