use Rattle.std.proofs.Common.{◌≤◌, ◌∙◌, length, refl, sym, ap, subst, arith, All}
use Rattle.std.specs.List.{list_any}
use Rattle.std.proofs.lemmas.List.{take_all}
use Rattle.std.proofs.lemmas.List.Elements.{All-more}
use Rattle.std.proofs.lemmas.Option.{slice_get_read}
use Rattle.arrays.specs.Column.{IsColumn}
use Rattle.table_versions.specs.Columns.{is_long_column}
use Rattle.table_versions.proofs.Places.{split_at}
use Rattle.table_versions.proofs.cells.has_long_column.Goals as goal

pub loop-column-preserved : goal.loop-column-preserved
loop-column-preserved c =
    let columns = c.args.columns.now in
    let column = c.column-item.result in
    let i = c.loop-column.column-index in
    let front = (split_at columns i column (slice_get_read columns (length columns) i column refl c.loop-column-test.true c.column-item.is)).0 in
    let short = sym c.is_long_column.ensures.long ∙ c.if-is_long_column.false in
    record {
      long = c.loop-column.invariant.long ∙ ap (list_any is_long_column) front ∙ rw short refl;
      stand = All-more IsColumn columns i column c.loop-column-test.true c.loop-column.invariant.stand (subst IsColumn c.column-item.is c.is_long_column.ensures.stands);
    }

pub returns-clause-stand : goal.returns-clause-stand
returns-clause-stand c = λ none.
    let columns = c.args.columns.now in
    let end : length columns ≤ c.loop-column.column-index = omega (arith, c.loop-column-test.false) in
    subst (All IsColumn) (take_all c.loop-column.column-index columns end) c.loop-column.invariant.stand
