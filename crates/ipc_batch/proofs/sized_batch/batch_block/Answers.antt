use Rattle.ipc_batch.proofs.PartsAgain.{fits_batch}
use Rattle.ipc_batch.proofs.sized_batch.batch_block.Goals as goal

pub table-requires : goal.table-requires
table-requires c =
    rw (c.in_ok-nodes.ensures, c.in_ok-places.ensures) (fits_batch c.args.rows c.args.nodes.now c.args.places.now c.requires.nodes.1 c.requires.places.1)
