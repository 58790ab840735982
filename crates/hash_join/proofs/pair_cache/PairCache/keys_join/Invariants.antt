use Rattle.std.proofs.Common.{◌≡◌, drop}
use Rattle.hash_join.specs.PairCache.{AreCompared}
use Rattle.hash_join.specs.Pairs.{keys_join}
use Rattle.hash_join.proofs.pair_cache.PairCache.keys_join.Given as goal

abbrev pub invariant-loop-part : goal.invariant-loop-part
invariant-loop-part g l = record {
  joins : keys_join (drop l.part (g.L.PartRows.key l.lefts l.left)) (drop l.part (g.R.PartRows.key l.rights l.right))
      ≡ keys_join (g.L.PartRows.key l.lefts l.left) (g.R.PartRows.key l.rights l.right);
  seen : AreCompared (g.L.PartRows.key l.lefts) (g.L.PartRows.count l.lefts) (g.R.PartRows.key l.rights) (g.R.PartRows.count l.rights) l.self.pairs.items;
}
