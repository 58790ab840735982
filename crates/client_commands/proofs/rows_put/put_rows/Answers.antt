use Rattle.std.proofs.Common.{inr, refl}
use Rattle.std.proofs.lemmas.Result.{err_from_is_err_and}
use Rattle.client_commands.proofs.RowsSent.{few_reads, few_writes, rows_put}
use Rattle.client_commands.proofs.rows_put.put_rows.Goals as goal

pub returns-in_err-putting : goal.returns-in_err-putting
returns-in_err-putting g c =
    let p = err_from_is_err_and c.from_residual.result c.from_residual.ensures.1 in
    let e = c.in_err-putting.ensures in
    rw (p.1, p.2) (e.0, inr (_, refl, e.1))

pub send_rows-requires : goal.send_rows-requires
send_rows-requires g c = few_writes c.args.target c.args.text.now c.args.connection _ _ c.in_ok-putting.ensures c.requires.1

pub returns-in_err-send_rows : goal.returns-in_err-send_rows
returns-in_err-send_rows g c =
    let p = err_from_is_err_and c.from_residual-in_err-send_rows.result c.from_residual-in_err-send_rows.ensures.1 in
    let e = c.in_err-send_rows.ensures c.args.target c.args.connection c.in_ok-putting.ensures in
    rw (p.1, p.2) (e.0, inr (_, refl, e.1))

pub end-counted-requires-clause-reads : goal.end-counted-requires-clause-reads
end-counted-requires-clause-reads g c =
    few_reads c.args.target c.args.text.now c.args.connection _ _ (c.in_ok-send_rows.ensures c.args.target c.args.connection c.in_ok-putting.ensures) c.requires.0

pub end-counted-requires-clause-writes : goal.end-counted-requires-clause-writes
end-counted-requires-clause-writes g c =
    few_writes c.args.target c.args.text.now c.args.connection _ _ (c.in_ok-send_rows.ensures c.args.target c.args.connection c.in_ok-putting.ensures) c.requires.1

pub returns : goal.returns
returns g c =
    let have = c.in_ok-send_rows.ensures c.args.target c.args.connection c.in_ok-putting.ensures in
    (_, rows_put c.args.target c.args.text.now c.args.connection _ have _ _ (c.end-counted.ensures _ c.args.connection have.putting))
