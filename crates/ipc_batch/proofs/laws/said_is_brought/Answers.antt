use Rattle.ipc_batch.proofs.Learned.{said_is_brought}
use Rattle.ipc_batch.proofs.laws.said_is_brought.Goals as goal

pub returns : goal.returns
returns c = said_is_brought
