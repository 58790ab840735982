use Rattle.std.proofs.Common.{◌≡◌, ◌+◌, ◌++◌, ◌∷◌, [], ◌∙◌, All, List, take, sym, ap, subst, arith}
use Rattle.std.proofs.lemmas.List.{take_all, take_more}
use Rattle.std.proofs.lemmas.List.Elements.{All-push}
use Rattle.arrays.specs.Column.{ColumnAt, IsColumn}
use Rattle.dictionary_answers.proofs.dressed_batch.columns_stand.Goals as goal

pub loop-column-preserved : goal.loop-column-preserved
loop-column-preserved c =
    let columns = c.args.columns.now in
    let column = c.column-item.result in
    let index = c.loop-column.column-index in
    let front : take (index + 1) columns ≡ take index columns ++ column ∷ [] =
    take_more columns index column c.loop-column-test.true ∙ ap (λ (x : ColumnAt). take index columns ++ x ∷ []) (sym c.column-item.is) in
    rw front (All-push IsColumn (take index columns) column c.loop-column.invariant c.len-len.ensures.stands)

pub returns : goal.returns
returns c = subst (All IsColumn) (take_all c.loop-column.column-index c.args.columns.now (omega (arith, c.loop-column-test.false))) c.loop-column.invariant
