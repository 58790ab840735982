use Rattle.std.proofs.Common.{◌≡◌, map, take}
use Rattle.group_slots.specs.declared.tally.Tally.{Tally}
use Rattle.group_slots.proofs.item_tallies.narrowed.Given as goal

abbrev pub invariant-loop-tally : goal.invariant-loop-tally
invariant-loop-tally l = l.counts.items ≡ map (λ (tally : Tally). tally.count) (take l.tally-index l.tallies)
