use Rattle.ipc_batch.specs.WrittenMessages.{batch_buffers_written}
use Rattle.ipc_batch.proofs.PartsAgain.{whole_body}
use Rattle.ipc_batch.proofs.writer.write_batch.Goals as goal

pub returns-clause-body : goal.returns-clause-body
returns-clause-body c =
    let sized = rw c.in-Some.is at c.in_ok-sized.ensures in
    rw (c.in_ok-append_body.ensures.ok, c.new-body.ensures.items, sized.1) (whole_body (batch_buffers_written c.args.batch.now.columns))
