use Rattle.std.proofs.Common.{rules}
use Rattle.ipc_batch.specs.WrittenMessages.{batch_buffers_written}
use Rattle.ipc_batch.proofs.PartsAgain.{whole_body}
use Rattle.ipc_batch.proofs.DictionaryAgain.{tells}
use Rattle.ipc_batch.proofs.writer.write_dictionary.Goals as goal

pub returns-clause-body : goal.returns-clause-body
returns-clause-body c =
    let sized = rw c.in-Some.is at c.in_ok-sized.ensures in
    rw (c.in_ok-append_body.ensures.ok, c.new-body.ensures.items, sized.1) (whole_body (batch_buffers_written c.in_ok-batch.batch.columns))

pub returns-clause-parts : goal.returns-clause-parts
returns-clause-parts c =
    let sized = rw c.in-Some.is at c.in_ok-sized.ensures in
    let body = rw (c.new-body.ensures.items, sized.1) at c.in_ok-append_body.ensures.ok in
    (tells c.args.id c.args.values.now c.args.is_delta c.in_ok-batch.batch _ _ (search rules) c.in_ok-batch.ensures (rw sized.1 at c.in_ok-header.ensures.fits) (rw sized.1 at c.in_ok-header.ensures.items) body).0

pub returns-clause-values : goal.returns-clause-values
returns-clause-values c =
    let sized = rw c.in-Some.is at c.in_ok-sized.ensures in
    let body = rw (c.new-body.ensures.items, sized.1) at c.in_ok-append_body.ensures.ok in
    (tells c.args.id c.args.values.now c.args.is_delta c.in_ok-batch.batch _ _ (search rules) c.in_ok-batch.ensures (rw sized.1 at c.in_ok-header.ensures.fits) (rw sized.1 at c.in_ok-header.ensures.items) body).1
