use Rattle.std.proofs.Common.{◌≡◌, arith}
use Rattle.ipc_batch.specs.WrittenMessages.{body_length, parts_written}
use Rattle.ipc_batch.proofs.Lengths.{on_ok}
use Rattle.ipc_batch.proofs.PartsAgain.{short_parts}
use Rattle.ipc_batch.proofs.BatchAgain.{fit_parts, said, header_short}
use Rattle.ipc_batch.proofs.sized_batch.SizedBatch.write_header.Goals as goal

pub write_message-requires : goal.write_message-requires
write_message-requires c =
    rw c.in_ok-table.ensures.block (omega (arith, short_parts (parts_written c.args.self.now) (fit_parts c.args.self.now c.in_ok-table.ensures.fits)))

pub returns-clause-short : goal.returns-clause-short
returns-clause-short c = on_ok c.write_message.result (λ header is. header_short _ _ _ _ c.in_ok-table.ensures.fits c.in_ok-table.ensures.block is) c.write_message.ensures.items

all_are : (c : goal.After-drop-table-inside) → c.self.inside.body_length ≡ body_length c.args.self.now
all_are c = rw c.self.view_is at c.self.invariant.all_are

pub returns-clause-parts : goal.returns-clause-parts
returns-clause-parts c = on_ok c.write_message.result (λ header is. (said _ _ _ _ c.in_ok-table.ensures.fits c.in_ok-table.ensures.block (all_are c) is).0) c.write_message.ensures.items

pub returns-clause-rows : goal.returns-clause-rows
returns-clause-rows c = on_ok c.write_message.result (λ header is. (said _ _ _ _ c.in_ok-table.ensures.fits c.in_ok-table.ensures.block (all_are c) is).1) c.write_message.ensures.items
