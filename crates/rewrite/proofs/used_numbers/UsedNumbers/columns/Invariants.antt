use Rattle.std.proofs.Common.{◌≡◌, map, take}
use Rattle.rewrite.specs.PrunedColumns.{used_number}
use Rattle.rewrite.proofs.used_numbers.UsedNumbers.columns.Given as goal

abbrev pub invariant-loop-column : goal.invariant-loop-column
invariant-loop-column l = l.made ≡ map (used_number l.self.uses.now) (take l.column-index l.columns)
