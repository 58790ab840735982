use Rattle.std.proofs.Common.{take}
use Rattle.scan_exec.specs.DistinctItems.{StandFor}
use Rattle.scan_exec.proofs.distinct_items.DistinctItems.of.Given as goal

-- what stands for the items so far
abbrev pub invariant-loop-item : goal.invariant-loop-item
invariant-loop-item l = StandFor (take l.item-index l.items) l.different.items.items l.different.places.items
