use Rattle.std.proofs.Common.{◌≡◌, ◌++◌, drop}
use Rattle.arrays.specs.WrittenSlots.{texts_joined}
use Rattle.array_select.specs.inside.GatheredSlots.{texts_at}
use Rattle.array_select.proofs.gather_texts.gather_bytes.Given as goal

abbrev pub invariant-loop-place : goal.invariant-loop-place
invariant-loop-place l = l.made.items ++ texts_joined (texts_at l.cells l.first (drop l.place-index l.places)) ≡ texts_joined (texts_at l.cells l.first l.places)
