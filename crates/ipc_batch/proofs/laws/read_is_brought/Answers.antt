use Rattle.ipc_batch.proofs.Learned.{read_is_brought}
use Rattle.ipc_batch.proofs.laws.read_is_brought.Goals as goal

pub returns : goal.returns
returns c = read_is_brought
