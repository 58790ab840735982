use Rattle.table_versions.proofs.Accepted.{accepted_puts_are_few}
use Rattle.table_versions.proofs.laws.accepted_puts_are_few.Goals as goal

pub returns : goal.returns
returns c = accepted_puts_are_few
