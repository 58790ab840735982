use Rattle.hash_join.specs.RowCache.{AreOpenRepeats}
use Rattle.hash_join.proofs.chains.OpenRepeats.look_at_rows.Given as goal

abbrev pub invariant-loop-row : goal.invariant-loop-row
invariant-loop-row l = AreOpenRepeats l.rights l.links l.self
