use Rattle.std.proofs.Common.{◌≡◌, map, take}
use Rattle.hash_join.specs.Searches.{start_at}
use Rattle.hash_join.specs.RowCache.{AreKept}
use Rattle.hash_join.proofs.left_pieces.find_heads.Given as goal

abbrev pub invariant-loop-row : goal.invariant-loop-row
invariant-loop-row g l = record {
  starts : l.starts.items ≡ map (start_at (g.S.Sieve.head l.sieve)) (take l.row-index l.rows);
  seen : AreKept (g.S.Sieve.bucket l.sieve) (g.S.Sieve.last l.sieve) (g.S.Sieve.count l.sieve) (g.S.Sieve.digest l.sieve) l.seen;
}
