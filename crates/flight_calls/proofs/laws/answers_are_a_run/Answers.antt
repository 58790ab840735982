use Rattle.flight_calls.proofs.Running.{answers_run}
use Rattle.flight_calls.proofs.laws.answers_are_a_run.Goals as goal

pub returns : goal.returns
returns c = answers_run
