use Rattle.ipc_batch.proofs.Glances.{glances_come_first}
use Rattle.ipc_batch.proofs.laws.glances_come_first.Goals as goal

pub returns : goal.returns
returns c = glances_come_first
