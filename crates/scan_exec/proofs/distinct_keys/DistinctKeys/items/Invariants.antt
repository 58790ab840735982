use Rattle.std.proofs.Common.{◌≡◌, map, take}
use Rattle.scan_exec.specs.DistinctItems.{item_by}
use Rattle.scan_exec.proofs.distinct_keys.DistinctKeys.items.Given as goal

-- the items so far
abbrev pub invariant-loop-item : goal.invariant-loop-item
invariant-loop-item l = l.made.items ≡ map (item_by l.self.places.items) (take l.item-index l.items)
