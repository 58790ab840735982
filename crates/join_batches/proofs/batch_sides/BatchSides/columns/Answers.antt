use Rattle.std.proofs.Common.{◌+◌, List, get_or, take, refl, sym, subst}
use Rattle.std.specs.List.{AllZip}
use Rattle.arrays.specs.Column.{ColumnAt}
use Rattle.join_batches.specs.BatchSides.{IsColumnOf, copied_at, rows_at}
use Rattle.join_batches.proofs.Made.{columns_more}
use Rattle.join_batches.proofs.Typed.{shown_more}
use Rattle.join_batches.proofs.batch_sides.BatchSides.columns.Goals as goal

pub loop-number-preserved : goal.loop-number-preserved
loop-number-preserved c =
    let sides = c.args.self.now in
    let shown = c.args.shown.now in
    let rows = rows_at sides c.args.placed.now.pairs.now in
    let i = c.loop-number.number-index in
    let number = get_or c.args.shown.now i 0 in
    let column = c.in_ok-column.column in
    let low = c.loop-number-test.true in (
      subst (λ (all : List ColumnAt). AllZip (IsColumnOf rows) (take (i + 1) shown) all) (sym c.in_ok-push.ensures.items)
          (columns_more rows shown i number c.loop-number.columns.items column low refl c.loop-number.invariant.0 c.in_ok-column.ensures.cells),
      shown_more (copied_at sides) shown i number c.loop-number.columns.items c.push.new.self.items column low refl
          c.in_ok-push.ensures.items c.loop-number.invariant.1 c.in_ok-column.ensures.typed,
    )
