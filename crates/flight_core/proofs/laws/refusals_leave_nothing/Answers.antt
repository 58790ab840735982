use Rattle.flight_core.proofs.Runs.{refusals_leave_nothing}
use Rattle.flight_core.proofs.laws.refusals_leave_nothing.Goals as goal

pub returns : goal.returns
returns c = refusals_leave_nothing
