use Rattle.std.proofs.Common.{◌≡◌, map, take}
use Rattle.rewrite.specs.PrunedColumns.{item_in}
use Rattle.rewrite.proofs.used_numbers.UsedNumbers.items.Given as goal

abbrev pub invariant-loop-item : goal.invariant-loop-item
invariant-loop-item l = l.made ≡ map (item_in l.self.uses.now) (take l.item-index l.items)
