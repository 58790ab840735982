use Rattle.std.proofs.lemmas.Result.{err_from_is_err_and}
use Rattle.ipc_batch.proofs.Placed.{unplaced_batch}
use Rattle.ipc_batch.proofs.reader.Stream.batch.Goals as goal

pub returns-in_err-check_placed-clause-value : goal.returns-in_err-check_placed-clause-value
returns-in_err-check_placed-clause-value c =
    let p = err_from_is_err_and c.from_residual-in_err-check_placed.result c.from_residual-in_err-check_placed.ensures.1 in
    rw (p.1, p.2) (λ other. unplaced_batch _ _ _ _ _ (rw c.as_slice.ensures at c.in_ok-parts.ensures.value) (rw c.as_slice-2.ensures at c.in_err-check_placed.ensures))
