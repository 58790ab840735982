use Rattle.std.proofs.Common.{◌≡◌, take}
use Rattle.group_slots.specs.HeldTallies.{count_tallies}
use Rattle.group_slots.proofs.item_tallies.widened.Given as goal

abbrev pub invariant-loop-count : goal.invariant-loop-count
invariant-loop-count l = l.sums.items ≡ count_tallies (take l.count-index l.counts)
