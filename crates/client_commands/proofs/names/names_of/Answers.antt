use Rattle.std.proofs.lemmas.Result.{err_from_is_err_and}
use Rattle.client_commands.proofs.Listing.{batch_listed, batch_refused}
use Rattle.client_commands.proofs.names.names_of.Goals as goal

pub loop-batch-preserved : goal.loop-batch-preserved
loop-batch-preserved c =
    batch_listed c.batches-batches.result.now c.loop-batch.batch-index c.batch-item.result _ _ c.loop-batch-test.true c.batch-item.is c.loop-batch.invariant c.in_ok-append_names.ensures

pub returns-in_err-append_names : goal.returns-in_err-append_names
returns-in_err-append_names c =
    let p = err_from_is_err_and c.from_residual.result c.from_residual.ensures.1 in
    rw (p.1, p.2, ← c.batches-batches.ensures.rows) (λ memory. batch_refused c.batches-batches.result.now c.loop-batch.batch-index c.batch-item.result _ _ c.loop-batch-test.true c.batch-item.is c.loop-batch.invariant
    (c.in_err-append_names.ensures memory))
