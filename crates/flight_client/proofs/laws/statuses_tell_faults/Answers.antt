use Rattle.flight_client.proofs.Statuses.{statuses_tell_faults}
use Rattle.flight_client.proofs.laws.statuses_tell_faults.Goals as goal

pub returns : goal.returns
returns c = statuses_tell_faults
