use Rattle.std.proofs.Common.{◌<◌, List, get_or, length, ap, arith}
use Rattle.arrays.specs.Column.{ColumnAt}
use Rattle.grouping.proofs.Answering.{IsHome, cell_is_slot, home, slot_there}
use Rattle.grouping.proofs.batches.GroupRows.slot.Goals as goal
use Rattle.grouping.proofs.batches.GroupRows.slot.Goals.{After-index-self-first}

-- the batch of the first row
at : (c : After-index-self-first) → IsHome c.args.self.now.types.now c.args.self.now.batches.now c.args.first.now
    (get_or c.args.self.now.batches.now c.args.first.now.batch c.index-self-first.result)
at c = home c.args.self.now.types.now c.args.self.now.batches.now c.args.first.now c.index-self-first.result c.requires.can.typed c.requires.first

pub offset_bounds-columns-column : goal.offset_bounds-columns-column
offset_bounds-columns-column c =
    let low : c.args.column < length c.columns.result.now =
    omega (arith, c.requires.there, (at (goal.at.offset_bounds-columns-column c).After-index-self-first).long, ap (λ (columns : List ColumnAt). length columns) c.columns.ensures.columns) in
    omega (arith, low, c.columns.type_inv)

pub bounds-columns-column : goal.bounds-columns-column
bounds-columns-column c =
    omega (arith, c.requires.there, (at (goal.at.bounds-columns-column c).After-index-self-first).long, ap (λ (columns : List ColumnAt). length columns) c.columns.ensures.columns)

pub returns-clause-value : goal.returns-clause-value
returns-clause-value c =
    cell_is_slot c.args.self.now.types.now c.args.self.now.batches.now c.args.first.now c.args.column _ c.columns.result.now c.index-columns-column.result
    (at (goal.at.returns-clause-value c).After-index-self-first) c.requires.there c.columns.ensures.columns c.index-columns-column.is

pub returns-clause-there : goal.returns-clause-there
returns-clause-there c =
    let here = at (goal.at.returns-clause-there c).After-index-self-first in
    slot_there _ c.columns.result.now _ c.args.column c.args.first.now.row c.index-columns-column.result
    c.columns.ensures.columns c.columns.ensures.long c.index-columns-column.is (omega (arith, c.requires.there, here.long)) here.row
    c.args.self.now.types.now here.typed
