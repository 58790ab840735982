use Rattle.std.proofs.Common.{refl}
use Rattle.std.proofs.lemmas.Result.{err_from_is_err_and}
use Rattle.ipc_batch.proofs.Glances.{short_body}
use Rattle.ipc_batch.proofs.reader.read_schema.Goals as goal

pub returns-in_err-check_body-in-Err-OutOfMemory-clause-value : goal.returns-in_err-check_body-in-Err-OutOfMemory-clause-value
returns-in_err-check_body-in-Err-OutOfMemory-clause-value c =
    let p = err_from_is_err_and c.from_residual-in_err-check_body-in-Err-OutOfMemory.result c.from_residual-in_err-check_body-in-Err-OutOfMemory.ensures.1 in
    rw (p.1, p.2) (λ other. short_body _ _ c.schema.result _ c.schema.ensures.refused (rw c.in-Err-OutOfMemory.field-0-is at c.in-Err-OutOfMemory.is) c.in_err-check_body-in-Err-OutOfMemory.ensures)

pub returns-in_err-check_body-in-Err-OutOfMemory-clause-first : goal.returns-in_err-check_body-in-Err-OutOfMemory-clause-first
returns-in_err-check_body-in-Err-OutOfMemory-clause-first c =
    let p = err_from_is_err_and c.from_residual-in_err-check_body-in-Err-OutOfMemory.result c.from_residual-in_err-check_body-in-Err-OutOfMemory.ensures.1 in
    rw (p.1, p.2, short_body _ _ c.schema.result _ c.schema.ensures.refused (rw c.in-Err-OutOfMemory.field-0-is at c.in-Err-OutOfMemory.is) c.in_err-check_body-in-Err-OutOfMemory.ensures) refl
