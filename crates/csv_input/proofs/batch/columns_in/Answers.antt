use Rattle.csv_input.specs.inside.Cells.{IsColumnIn}
use Rattle.csv_input.proofs.Columnar.{columns_more}
use Rattle.std.proofs.lemmas.Result.{err_from_is_err_and}
use Rattle.csv_input.proofs.Lengthy.{long_column}
use Rattle.csv_input.proofs.batch.columns_in.Goals as goal

pub loop-number-preserved : goal.loop-number-preserved
loop-number-preserved c =
    let chunk = c.args.chunk.now in
    let number = c.loop-number.number in
    let column = c.index-columns-number.result in
    let here : IsColumnIn chunk column number c.in-Some.next = rw c.in-Some.is at c.in_ok-next.ensures.found in
    columns_more chunk c.args.columns.now c.loop-number.made.items c.push.new.self.items number column c.in-Some.next c.loop-number-test.true c.index-columns-number.is
    c.in_ok-push.ensures.items here c.loop-number.invariant

pub returns-in_err-next-clause-refused : goal.returns-in_err-next-clause-refused
returns-in_err-next-clause-refused c =
    let p = err_from_is_err_and c.from_residual-in_err-next.result c.from_residual-in_err-next.ensures.1 in
    rw (p.1, p.2)
    (long_column c.args.chunk.now c.args.columns.now c.loop-number.number c.index-columns-number.result _ c.loop-number-test.true c.index-columns-number.is c.in_err-next.ensures.refused)
