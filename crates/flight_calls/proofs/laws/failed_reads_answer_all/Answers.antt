use Rattle.flight_calls.proofs.Telling.{failed_reads}
use Rattle.flight_calls.proofs.laws.failed_reads_answer_all.Goals as goal

pub returns : goal.returns
returns g c = failed_reads g.B.Backend.moves
