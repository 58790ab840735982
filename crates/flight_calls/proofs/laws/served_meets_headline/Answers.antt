use Rattle.flight_calls.proofs.Running.{served_headline}
use Rattle.flight_calls.proofs.laws.served_meets_headline.Goals as goal

pub returns : goal.returns
returns c = served_headline c.runs_meet_headline.ensures
