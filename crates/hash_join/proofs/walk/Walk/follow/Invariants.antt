use Rattle.std.proofs.Common.{◌≡◌, ◌<◌, ◌-◌, ◌++◌, length}
use Rattle.hash_join.specs.PairCache.{HasCompared}
use Rattle.hash_join.specs.Rights.{place_at}
use Rattle.hash_join.specs.Walks.{joins_at, pairs_past}
use Rattle.hash_join.proofs.Walking.{Follows}
use Rattle.hash_join.proofs.walk.Walk.follow.Given as goal

abbrev pub invariant-chain : goal.invariant-chain
invariant-chain l = record {
  follows : Follows l.self l.at l.made.pairs.items (l.fn.made.pairs.items ++ pairs_past l.self l.fn.first) l.most;
  compared : HasCompared l.self l.made.compared;
  told : l.at < length l.self.rights.now.places.items → l.joins ≡ joins_at l.self (place_at l.self.rights.now l.at);
}

abbrev pub decreases-chain : goal.decreases-chain
decreases-chain l = length l.self.rights.now.places.items - l.at
