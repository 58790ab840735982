use Rattle.std.proofs.Common.{◌≡◌, drop}
use Rattle.row_text.specs.TableCells.{greatest, text_width}
use Rattle.row_text.proofs.Widest.{batches_widths}
use Rattle.row_text.proofs.widths.column_width.Given as goal

abbrev pub invariant-loop-batch : goal.invariant-loop-batch
invariant-loop-batch l =
    greatest l.widest (batches_widths l.field.data_type l.number (drop l.batch-index l.batches))
    ≡ greatest (text_width l.field.name) (batches_widths l.field.data_type l.number l.batches)
