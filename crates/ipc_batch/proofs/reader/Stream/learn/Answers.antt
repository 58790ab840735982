use Rattle.std.proofs.lemmas.Result.{err_from_is_err_and}
use Rattle.ipc_batch.proofs.Placed.{unplaced_dictionary}
use Rattle.ipc_batch.proofs.reader.Stream.learn.Goals as goal

pub returns-in_err-check_placed-clause-err : goal.returns-in_err-check_placed-clause-err
returns-in_err-check_placed-clause-err c =
    let p = err_from_is_err_and c.from_residual-in_err-check_placed.result c.from_residual-in_err-check_placed.ensures.1 in
    rw (p.1, p.2) (λ other. unplaced_dictionary _ _ _ _ _ (rw c.as_slice.ensures at c.in_ok-sent.ensures) (rw c.as_slice-2.ensures at c.in_err-check_placed.ensures))
