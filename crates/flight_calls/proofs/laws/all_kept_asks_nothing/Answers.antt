use Rattle.flight_calls.proofs.Exchanging.{asks_nothing}
use Rattle.flight_calls.proofs.laws.all_kept_asks_nothing.Goals as goal

pub returns : goal.returns
returns c = asks_nothing
