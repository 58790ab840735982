use Rattle.std.proofs.Common.{take}
use Rattle.batch_skipping.specs.ChosenColumns.{columns_at}
use Rattle.row_sources.proofs.Cells.{columns_more}
use Rattle.row_sources.proofs.Selecting.{all_long, more_has}
use Rattle.row_sources.proofs.columns.gather_of.Goals as goal

pub loop-number-preserved : goal.loop-number-preserved
loop-number-preserved c =
    let places = c.args.selection.now in
    let column = c.index-columns-number.result in
    let numbers = c.args.numbers.now in
    let columns = c.args.batch.now.columns in
    let i = c.loop-number.number-index in
    let is = rw c.columns-columns.ensures.columns at c.index-columns-number.is in
    let more = columns_more numbers columns i column c.loop-number-test.true c.requires.there is in
    let made = c.in_ok-gather.ensures in
    more_has places (columns_at (take i numbers) columns) c.loop-number.gathered.items _ c.push.new.self.items column
    c.in_ok-gather.field-0 more c.in_ok-push.ensures.items c.loop-number.invariant
    (record { values = made.values; long = made.long; typed = made.typed })

pub new-requires : goal.new-requires
new-requires c =
    rw c.len.ensures
    (all_long c.args.selection.now (columns_at (take c.loop-number.number-index c.args.numbers.now) c.args.batch.now.columns)
    c.loop-number.gathered.items c.loop-number.invariant)
