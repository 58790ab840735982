use Rattle.std.proofs.Common.{◌≡◌, map, take}
use Rattle.join_batches.specs.BatchSides.{left_place}
use Rattle.join_batches.proofs.placed_pairs.left_places.Given as goal

abbrev pub invariant-loop-pair : goal.invariant-loop-pair
invariant-loop-pair l = l.places.items ≡ map left_place (take l.pair-index l.pairs)
