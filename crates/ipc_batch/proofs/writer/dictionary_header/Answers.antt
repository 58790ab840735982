use Rattle.std.proofs.Common.{◌∙◌, refl}
use Rattle.ipc_batch.specs.WrittenMessages.{dictionary_batch_part, parts_written}
use Rattle.ipc_batch.proofs.Lengths.{on_ok}
use Rattle.ipc_batch.proofs.PartsAgain.{short_parts}
use Rattle.ipc_batch.proofs.BatchAgain.{fit_parts}
use Rattle.ipc_batch.proofs.DictionaryAgain.{dictionary_header_short, short_dictionary}
use Rattle.ipc_batch.proofs.writer.dictionary_header.Goals as goal

pub dictionary_block-requires : goal.dictionary_block-requires
dictionary_block-requires c =
    let batch = c.args.values.now in
    rw c.in_ok-table.ensures.block (short_parts (parts_written batch) (fit_parts batch c.in_ok-table.ensures.fits))

pub write_message-requires : goal.write_message-requires
write_message-requires c =
    let batch = c.args.values.now in
    rw (c.in_ok-block.ensures, c.in_ok-table.ensures.block) (short_dictionary _ _ _ (short_parts (parts_written batch) (fit_parts batch c.in_ok-table.ensures.fits)))

pub returns-clause-items : goal.returns-clause-items
unfolding dictionary_batch_part
returns-clause-items c = on_ok c.write_message.result (λ header is. is ∙ rw (c.in_ok-block.ensures, c.in_ok-table.ensures.block, c.body_length.ensures.length) refl) c.write_message.ensures.items

pub returns-clause-short : goal.returns-clause-short
returns-clause-short c =
    on_ok c.write_message.result (λ header is. dictionary_header_short c.args.values.now _ _ _ _ _ _ c.in_ok-table.ensures.fits c.in_ok-table.ensures.block c.in_ok-block.ensures is) c.write_message.ensures.items
