use Rattle.ipc_stream.proofs.Streams.{at_most_one}
use Rattle.ipc_stream.proofs.laws.at_most_one_list.Goals as goal

pub returns : goal.returns
returns c = at_most_one
