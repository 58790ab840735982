use Rattle.std.proofs.lemmas.Result.{err_from_is_err_and}
use Rattle.csv_columns.proofs.Refusing.{unread}
use Rattle.csv_columns.proofs.name.name_of.Goals as goal

pub returns-in_err-name-clause-refused : goal.returns-in_err-name-clause-refused
returns-in_err-name-clause-refused c =
    let p = err_from_is_err_and c.from_residual.result c.from_residual.ensures.1 in
    rw (p.1, p.2) (unread c.args.bytes.now _ c.in_err-name.ensures)
