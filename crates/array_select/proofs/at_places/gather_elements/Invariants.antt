use Rattle.array_select.specs.inside.GatheredSlots.{HasElementsAt}
use Rattle.array_select.proofs.at_places.gather_elements.Given as goal

abbrev pub invariant-loop-place : goal.invariant-loop-place
invariant-loop-place g l = HasElementsAt g.row.WIDTH l.packed.items l.values l.first l.places l.place-index
