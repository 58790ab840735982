use Rattle.std.proofs.Common.{◌≡◌, ◌≤◌, ◌++◌, length, drop}
use Rattle.hash_join.specs.Searches.{ahead_of, first_left, probe_at, walk_at, AreStarts}
use Rattle.hash_join.specs.PairCache.{HasCompared}
use Rattle.hash_join.proofs.search.Search.push_piece.Given as goal

abbrev pub invariant-loop-start : goal.invariant-loop-start
invariant-loop-start l = record {
  starts : AreStarts l.self l.piece.own l.piece.to (drop l.start-index l.start-items);
  all : l.made.pairs.items ++ ahead_of l.self (probe_at (first_left l.piece.to (drop l.start-index l.start-items)) 0)
      ≡ l.fn.made.pairs.items ++ ahead_of l.self (probe_at (first_left l.piece.to l.piece.starts.now) 0);
  compared : HasCompared (walk_at l.self 0) l.made.compared;
  few : length l.made.pairs.items ≤ l.most;
}
