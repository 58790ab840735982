use Rattle.std.proofs.Common.{◌≡◌, drop, map}
use Rattle.arrays.specs.Column.{values_of}
use Rattle.row_text.specs.TableCells.{greatest, value_width}
use Rattle.row_text.proofs.widths.widest_of_column.Given as goal

abbrev pub invariant-loop-place : goal.invariant-loop-place
invariant-loop-place l =
    greatest l.widest (map (value_width l.data_type) (drop l.place (values_of l.column))) ≡ greatest l.start (map (value_width l.data_type) (values_of l.column))
