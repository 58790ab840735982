use Rattle.flight_client.proofs.Arrivals.{holds_what_is_said}
use Rattle.flight_client.proofs.laws.streams_hold_what_is_said.Goals as goal

pub returns : goal.returns
returns c = holds_what_is_said
