use Rattle.std.proofs.Common.{ℕ, List, ◌-◌, take, sym, subst}
use Rattle.std.specs.List.{AllZip}
use Rattle.std.proofs.lemmas.List.{take_all}
use Rattle.std.proofs.lemmas.List.FromFn.{length-range_with_len}
use Rattle.arrays.specs.Batch.{AreLong}
use Rattle.batch_skipping.specs.ChosenColumns.{columns_at}
use Rattle.row_sources.specs.Picking.{rows_of_part}
use Rattle.row_sources.specs.PickedRows.{HasSlotsAt}
use Rattle.row_sources.proofs.Cells.{columns_more}
use Rattle.row_sources.proofs.Selecting.{all_long, cut_has, more_has}
use Rattle.row_sources.proofs.columns.slice_of.Goals as goal

pub loop-number-preserved : goal.loop-number-preserved
loop-number-preserved c =
    let part = c.args.part.now in
    let column = c.index-columns-number.result in
    let numbers = c.args.numbers.now in
    let columns = part.batch.now.columns in
    let i = c.loop-number.number-index in
    let is = rw c.columns-columns.ensures.columns at c.index-columns-number.is in
    let more = columns_more numbers columns i column c.loop-number-test.true c.requires.there is in
    more_has (rows_of_part part) (columns_at (take i numbers) columns) c.loop-number.slices.items _ c.push.new.self.items column
    c.in_ok-slice.field-0 more c.in_ok-push.ensures.items c.loop-number.invariant
    (subst (HasSlotsAt (rows_of_part part) column) (sym c.in_ok-slice.ensures) (cut_has column part.from part.to))

pub new-requires : goal.new-requires
new-requires c =
    let part = c.args.part.now in
    let long = length-range_with_len part.from (part.to - part.from) in
    subst (λ (rows : ℕ). AreLong rows c.loop-number.slices.items) long
    (all_long (rows_of_part part) (columns_at (take c.loop-number.number-index c.args.numbers.now) part.batch.now.columns)
    c.loop-number.slices.items c.loop-number.invariant)

pub returns : goal.returns
returns c =
    let part = c.args.part.now in
    let numbers = c.args.numbers.now in
    let columns = part.batch.now.columns in
    let all = subst (λ (some : List ℕ). AllZip (HasSlotsAt (rows_of_part part)) (columns_at some columns) c.loop-number.slices.items)
    (take_all c.loop-number.number-index numbers c.loop-number-test.false) c.loop-number.invariant in
    rw c.new.ensures (record { rows = sym (length-range_with_len part.from (part.to - part.from)); columns = all })
