use Rattle.std.proofs.Common.{◌-◌, ◌++◌, length}
use Rattle.hash_join.specs.Walks.{pairs_past}
use Rattle.hash_join.proofs.Walking.{Follows}
use Rattle.hash_join.proofs.walk.Walk.take_chain.Given as goal

abbrev pub invariant-chain : goal.invariant-chain
invariant-chain l = Follows l.self l.at l.pairs.items (l.fn.pairs.items ++ pairs_past l.self l.fn.first) l.most

abbrev pub decreases-chain : goal.decreases-chain
decreases-chain l = length l.self.rights.now.places.items - l.at
