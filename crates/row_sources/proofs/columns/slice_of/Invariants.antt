use Rattle.std.proofs.Common.{take}
use Rattle.std.specs.List.{AllZip}
use Rattle.batch_skipping.specs.ChosenColumns.{columns_at}
use Rattle.row_sources.specs.Picking.{rows_of_part}
use Rattle.row_sources.specs.PickedRows.{HasSlotsAt}
use Rattle.row_sources.proofs.columns.slice_of.Given as goal

abbrev pub invariant-loop-number : goal.invariant-loop-number
invariant-loop-number l =
    AllZip (HasSlotsAt (rows_of_part l.part)) (columns_at (take l.number-index l.numbers) l.part.batch.now.columns) l.slices.items
