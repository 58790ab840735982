use Rattle.std.proofs.Common.{take}
use Rattle.join_batches.specs.BatchSides.{AllFit}
use Rattle.join_batches.proofs.batch_sides.BatchSides.how_many_fit.Given as goal

abbrev pub invariant-loop-number : goal.invariant-loop-number
invariant-loop-number l = AllFit l.self l.share l.placed.pairs.now (take l.number-index l.shown) l.count
