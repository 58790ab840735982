use Rattle.std.proofs.Common.{◌≡◌, map, slice_index, take}
use Rattle.row_sources.proofs.columns.picked.Given as goal

abbrev pub invariant-loop-place : goal.invariant-loop-place
invariant-loop-place l = l.picked.items ≡ map (slice_index l.numbers) (take l.place-index l.place-items)
