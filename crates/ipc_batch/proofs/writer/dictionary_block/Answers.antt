use Rattle.ipc_batch.proofs.DictionaryAgain.{fits_dictionary}
use Rattle.ipc_batch.proofs.writer.dictionary_block.Goals as goal

pub table-requires : goal.table-requires
table-requires c = fits_dictionary _ _ _ c.requires
