use Rattle.std.proofs.Common.{◌≡◌, ◌++◌, drop}
use Rattle.hash_join.specs.Pairs.{places}
use Rattle.hash_join.proofs.Places.{places_from}
use Rattle.hash_join.proofs.rights.places_of.Given as goal

abbrev pub invariant-loop-number : goal.invariant-loop-number
invariant-loop-number l = l.all.items ++ places_from l.number (drop l.number l.batches) ≡ places l.batches
