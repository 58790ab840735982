use Rattle.std.proofs.Common.{rules}
use Rattle.std.proofs.lemmas.Result.{err_from_is_err_and}
use Rattle.client_commands.proofs.Listing.{none_listed, more_listed, not_listed}
use Rattle.client_commands.proofs.names.append_names.Goals as goal

pub loop-place-init : goal.loop-place-init
loop-place-init c = none_listed c.args.batch.now c.args.names.now.items

pub returns-in_err-name : goal.returns-in_err-name
returns-in_err-name c =
    let p = err_from_is_err_and c.from_residual.result c.from_residual.ensures.1 in
    rw (p.1, p.2) (λ memory. not_listed c.args.batch.now c.loop-place.place _ _ _ (search rules) (rw c.columns.ensures.columns at (c.in_err-name.ensures memory)) c.loop-place.invariant)

pub loop-place-preserved : goal.loop-place-preserved
loop-place-preserved c =
    more_listed c.args.batch.now c.loop-place.place _ _ _ c.in_ok-name.name (search rules) (rw c.columns.ensures.columns at c.in_ok-name.ensures) (search rules) c.loop-place.invariant
