use Rattle.std.proofs.Common.{◌≡◌, drop}
use Rattle.batch_skipping.specs.PredicateTruths.{can_be_among, side_of}
use Rattle.batch_skipping.proofs.predicate_truths.begun_among.Given as goal

-- what the items from this one on give
abbrev pub invariant-loop-index : goal.invariant-loop-index
invariant-loop-index g l = l.found ≡ can_be_among (g.M.ColumnStats.stats l.batch) (side_of (g.M.ColumnStats.stats l.batch) l.operand) (drop l.index l.items)
