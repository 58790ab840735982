use Rattle.std.proofs.Common.{map, take}
use Rattle.std.specs.List.{AllZip}
use Rattle.arrays.specs.TypedLayouts.{AreOf}
use Rattle.join_batches.specs.BatchSides.{IsColumnOf, copied_at, rows_at}
use Rattle.join_batches.proofs.batch_sides.BatchSides.columns.Given as goal

-- the columns so far
abbrev pub invariant-loop-number : goal.invariant-loop-number
invariant-loop-number l =
    AllZip (IsColumnOf (rows_at l.self l.placed.pairs.now)) (take l.number-index l.shown) l.columns.items
    × AreOf (map (copied_at l.self) (take l.number-index l.shown)) l.columns.items
