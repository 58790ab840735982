use Rattle.std.proofs.Common.{refl}
use Rattle.ipc_batch.proofs.Lengths.{on_ok}
use Rattle.ipc_batch.proofs.BatchAgain.{nodes_small, places_small, made_table}
use Rattle.ipc_batch.proofs.sized_batch.SizedBatch.table.Goals as goal

pub batch_block-requires-clause-nodes : goal.batch_block-requires-clause-nodes
batch_block-requires-clause-nodes c =
    rw (c.as_slice.ensures.value, c.in_ok-nodes.ensures.structs, c.columns-columns.ensures.columns, c.self.view_is) (nodes_small c.args.self.now.columns c.requires)

pub batch_block-requires-clause-places : goal.batch_block-requires-clause-places
batch_block-requires-clause-places c =
    rw (c.as_slice-2.ensures.value, c.in_ok-places.ensures) (places_small c.args.self.now.columns c.requires)

pub returns-clause-block : goal.returns-clause-block
returns-clause-block c = on_ok c.batch_block.result (λ block is. made_table c.args.self.now c.args.self.now.columns _ _ _ block (record {
  same = refl;
  counted = rw c.self.view_is at c.rows-rows.ensures;
  nodes_is = rw (c.as_slice.ensures.value, c.in_ok-nodes.ensures.structs, c.columns-columns.ensures.columns, c.self.view_is) refl;
  places_is = rw (c.as_slice-2.ensures.value, c.in_ok-places.ensures) refl;
  block_is = is;
})) c.batch_block.ensures
