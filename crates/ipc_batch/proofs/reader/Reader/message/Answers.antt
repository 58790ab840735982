use Rattle.ipc_batch.proofs.Messages.{told_columns}
use Rattle.ipc_batch.proofs.reader.Reader.message.Goals as goal

pub returns-clause-columns : goal.returns-clause-columns
returns-clause-columns c = told_columns _ _ _ _ c.read.ensures.exact
