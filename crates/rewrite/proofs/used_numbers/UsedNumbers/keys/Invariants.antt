use Rattle.std.proofs.Common.{◌≡◌, map, take}
use Rattle.rewrite.specs.PrunedColumns.{used_key}
use Rattle.rewrite.proofs.used_numbers.UsedNumbers.keys.Given as goal

abbrev pub invariant-loop-key : goal.invariant-loop-key
invariant-loop-key l = l.made ≡ map (used_key l.self.uses.now) (take l.key-index l.on)
