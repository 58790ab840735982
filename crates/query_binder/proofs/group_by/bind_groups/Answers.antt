use Rattle.std.proofs.Common.{refl}
use Rattle.std.proofs.lemmas.Result.{err_from_is_err_and}
use Rattle.query_binder.proofs.group_by.bind_groups.Goals as goal

pub returns-in_err-aggregates : goal.returns-in_err-aggregates
returns-in_err-aggregates c =
    let p = err_from_is_err_and c.from_residual-in_err-aggregates.result c.from_residual-in_err-aggregates.ensures.1 in
    let here = c.in_ok-keys.ensures in
    let fails = rw (c.as_slice.ensures, here.1) at c.in_err-aggregates.ensures in
    rw (p.1, p.2, here.0) (λ apart. rw (fails apart) refl)
