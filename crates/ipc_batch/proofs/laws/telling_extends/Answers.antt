use Rattle.ipc_batch.proofs.Messages.{extended}
use Rattle.ipc_batch.proofs.laws.telling_extends.Goals as goal

pub returns : goal.returns
returns c = extended
