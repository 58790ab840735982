use Rattle.flight_core.proofs.Running.{runs_meet_headline}
use Rattle.flight_core.proofs.laws.runs_meet_headline.Goals as goal

pub returns : goal.returns
returns c = runs_meet_headline
