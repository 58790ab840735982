use Rattle.std.proofs.Common.{length}
use Rattle.scan_workers.proofs.morsel_ring.MorselRing.discard.Given as goal

abbrev pub decreases-loop-slot : goal.decreases-loop-slot
decreases-loop-slot g l = length l.slots.items
