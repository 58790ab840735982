use Rattle.ipc_batch.proofs.Messages.{join_rows}
use Rattle.ipc_batch.proofs.laws.messages_join_their_rows.Goals as goal

pub returns : goal.returns
returns c = join_rows
