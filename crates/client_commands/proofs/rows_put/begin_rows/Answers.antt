use Rattle.std.proofs.Common.{[], inl, refl}
use Rattle.std.proofs.lemmas.Result.{err_from_is_err_and}
use Rattle.scan_base.specs.declared.fault.Fault.TheVariants.{OutOfMemory}
use Rattle.client_commands.proofs.RowsSent.{columns_begun, columns_unmade}
use Rattle.client_commands.proofs.rows_put.begin_rows.Goals as goal

pub returns-in_err-first : goal.returns-in_err-first
returns-in_err-first g c =
    let p = err_from_is_err_and c.from_residual.result c.from_residual.ensures.1 in
    rw (p.1, p.2) (columns_unmade c.args.target c.args.text.now c.args.connection OutOfMemory ([], inl refl))

pub returns : goal.returns
returns g c =
    columns_begun c.args.target c.args.text.now c.args.connection (λ putting. putting) c.begin.result c.in_ok-first.first c.in_ok-first.ensures c.begin.ensures
