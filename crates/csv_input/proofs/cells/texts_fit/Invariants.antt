use Rattle.std.proofs.Common.{◌≡◌, ◌+◌, length, map, take}
use Rattle.scan_base.specs.Value.{value_of}
use Rattle.arrays.specs.WrittenSlots.{texts_joined}
use Rattle.csv_input.proofs.cells.texts_fit.Given as goal

abbrev pub invariant-loop-cell : goal.invariant-loop-cell
invariant-loop-cell l = l.left + length (texts_joined (map value_of (take l.cell-index l.cells))) ≡ 2147483647
