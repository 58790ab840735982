use Rattle.std.proofs.Common.{◌≡◌, ◌≤◌, ◌<◌, ◌-◌, ◌++◌, length}
use Rattle.hash_join.specs.Searches.{ahead_of, probe_at, walk_at}
use Rattle.hash_join.specs.PairCache.{HasCompared}
use Rattle.hash_join.specs.RowCache.{AreKept}
use Rattle.hash_join.proofs.search.Search.push_rows.Given as goal

abbrev pub invariant-pieces : goal.invariant-pieces
invariant-pieces g l = record {
  within : l.at.left ≤ l.self.left.batch.now.rows;
  after : l.fn.from ≤ l.at.left;
  first : l.at.from ≡ 0;
  kept : length l.kept.items ≡ l.room;
  all : l.made.pairs.items ++ ahead_of l.self l.at ≡ l.fn.made.pairs.items ++ ahead_of l.self (probe_at l.fn.from 0);
  few : length l.made.pairs.items ≤ l.most;
  some : 0 < l.next;
  room : l.next ≤ 4096;
  compared : HasCompared (walk_at l.self 0) l.made.compared;
  seen : AreKept (g.S.Sieve.bucket l.sieve) (g.S.Sieve.last l.sieve) (g.S.Sieve.count l.sieve) (g.S.Sieve.digest l.sieve) l.seen;
}

abbrev pub decreases-pieces : goal.decreases-pieces
decreases-pieces g l = l.self.left.batch.now.rows - l.at.left
