use Rattle.std.proofs.Common.{take}
use Rattle.std.specs.List.{AllZip}
use Rattle.batch_skipping.specs.ChosenColumns.{columns_at}
use Rattle.row_sources.specs.PickedRows.{HasSlotsAt}
use Rattle.row_sources.proofs.columns.gather_of.Given as goal

abbrev pub invariant-loop-number : goal.invariant-loop-number
invariant-loop-number l =
    AllZip (HasSlotsAt l.selection) (columns_at (take l.number-index l.numbers) l.batch.columns) l.gathered.items
