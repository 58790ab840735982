use Rattle.std.proofs.Common.{take}
use Rattle.scan_exec.specs.DistinctItems.{KeyedBy}
use Rattle.scan_exec.proofs.distinct_keys.DistinctKeys.of.Given as goal

-- what stands for the parts so far
abbrev pub invariant-loop-key : goal.invariant-loop-key
invariant-loop-key l = KeyedBy (take l.key-index l.keys) l.different.columns.items l.different.places.items
