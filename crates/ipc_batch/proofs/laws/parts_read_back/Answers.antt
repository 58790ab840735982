use Rattle.ipc_batch.proofs.PartsAgain.{parts_read}
use Rattle.ipc_batch.proofs.laws.parts_read_back.Goals as goal

pub returns : goal.returns
returns c = parts_read
