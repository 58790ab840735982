use Rattle.ipc_batch.proofs.Messages.{wide}
use Rattle.ipc_batch.proofs.laws.rows_fit_the_schema.Goals as goal

pub returns : goal.returns
returns c = wide
