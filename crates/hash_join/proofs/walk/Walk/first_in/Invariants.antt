use Rattle.std.proofs.Common.{◌≡◌, ◌≤◌, ◌<◌, ◌-◌, ℕ, false, length}
use Rattle.hash_join.specs.Walks.{in_chain}
use Rattle.hash_join.proofs.walk.Walk.first_in.Given as goal

abbrev pub invariant-rows : goal.invariant-rows
invariant-rows l = record {
  after : l.fn.from ≤ l.at;
  none : (row : ℕ) → l.fn.from ≤ row → row < l.at → in_chain l.self row ≡ false;
}

abbrev pub decreases-rows : goal.decreases-rows
decreases-rows l = length l.self.rights.now.places.items - l.at
