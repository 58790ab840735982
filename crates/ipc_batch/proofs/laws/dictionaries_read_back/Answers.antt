use Rattle.ipc_batch.proofs.DictionaryAgain.{dictionaries_again}
use Rattle.ipc_batch.proofs.laws.dictionaries_read_back.Goals as goal

pub returns : goal.returns
returns c = dictionaries_again
