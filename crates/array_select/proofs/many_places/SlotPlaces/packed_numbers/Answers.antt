use Rattle.std.proofs.Common.{sym, ap, subst, map, arith}
use Rattle.std.proofs.lemmas.List.{length-map}
use Rattle.arrays.specs.Number.{cell_width, number_in}
use Rattle.arrays.specs.Column.{ColumnAt}
use Rattle.arrays.specs.TypedLayouts.{LieIn}
use Rattle.array_select.specs.inside.GatheredMany.{columns_of}
use Rattle.array_select.proofs.GatheredMany.{have_none, have_next, item_at}
use Rattle.array_select.proofs.many_places.SlotPlaces.packed_numbers.Goals as goal

pub loop-column-init : goal.loop-column-init
loop-column-init c = have_none (number_in c.args.cell) (cell_width c.args.cell) _ (columns_of c.args.self.now) (ap (map (λ source. source.now)) c.in_ok-sources.ensures.items)

pub packed_numbers-requires : goal.packed_numbers-requires
packed_numbers-requires c =
    let columns = c.args.self.now.columns.now in
    let i = c.loop-column.column-index in
    let column = c.column-item.result in
    subst (λ (one : ColumnAt). LieIn c.args.cell one.layout) (sym (item_at (λ one. one.now) columns i column column.now c.loop-column-test.true c.column-item.is))
    (c.requires i column.now (omega (arith, c.loop-column-test.true, length-map columns (λ one. one.now))))

pub loop-column-preserved : goal.loop-column-preserved
loop-column-preserved c =
    have_next (λ one. one.now) (λ one. one.now) (number_in c.args.cell) (cell_width c.args.cell) c.loop-column.sources.items c.push.new.self.items c.args.self.now.columns.now c.loop-column.column-index
    c.packed_numbers.result c.column-item.result c.loop-column-test.true c.column-item.is c.in_ok-push.ensures.items c.packed_numbers.ensures c.loop-column.invariant
