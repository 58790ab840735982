use Rattle.std.proofs.Common.{◌≡◌, map, take}
use Rattle.join_batches.specs.BatchSides.{right_place}
use Rattle.join_batches.proofs.placed_pairs.right_places.Given as goal

abbrev pub invariant-loop-pair : goal.invariant-loop-pair
invariant-loop-pair l = l.places.items ≡ map right_place (take l.pair-index l.pairs)
