use Rattle.ipc_batch.proofs.Negatives.{negatives_lie_outside}
use Rattle.ipc_batch.proofs.laws.negatives_lie_outside.Goals as goal

pub returns : goal.returns
returns c = negatives_lie_outside
