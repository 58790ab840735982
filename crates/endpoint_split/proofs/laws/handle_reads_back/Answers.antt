use Rattle.endpoint_split.proofs.Tickets.{reads_back}
use Rattle.endpoint_split.proofs.laws.handle_reads_back.Goals as goal

pub returns : goal.returns
returns c = reads_back
