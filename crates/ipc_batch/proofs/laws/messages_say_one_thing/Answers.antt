use Rattle.ipc_batch.proofs.Messages.{say_one_thing}
use Rattle.ipc_batch.proofs.laws.messages_say_one_thing.Goals as goal

pub returns : goal.returns
returns c = say_one_thing
