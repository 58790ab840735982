use Rattle.std.proofs.Common.{◌≤◌}
use Rattle.hash_join.specs.RowCache.{AreOpen}
use Rattle.hash_join.proofs.chains.OpenChains.link_rows.Given as goal

abbrev pub invariant-loop-row : goal.invariant-loop-row
invariant-loop-row l = record {
  linked : AreOpen l.rights l.self l.row;
  low : l.from ≤ l.row;
}
