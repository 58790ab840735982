use Rattle.std.proofs.Common.{◌≡◌, ◌++◌, drop, length}
use Rattle.std.specs.List.{flat_map}
use Rattle.arrays.specs.Batch.{rows_of}
use Rattle.row_text.specs.TableCells.{widths_from}
use Rattle.row_text.proofs.widths.widths_of.Given as goal

abbrev pub invariant-loop-number : goal.invariant-loop-number
invariant-loop-number l = record {
  all : l.widths.items ++ widths_from (drop l.number l.fields) l.number (flat_map rows_of l.batches) ≡ widths_from l.fields 0 (flat_map rows_of l.batches);
  count : length l.widths.items ≡ l.number;
}
