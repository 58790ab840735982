use Rattle.std.proofs.Common.{map}
use Rattle.array_select.specs.inside.GatheredMany.{HasCellsAt}
use Rattle.array_select.proofs.many_places.SlotPlaces.gather_cells.Given as goal

abbrev pub invariant-loop-number : goal.invariant-loop-number
invariant-loop-number g l =
    HasCellsAt g.row.WIDTH l.packed.items (map (λ source. source.now) l.sources) l.self.places.now l.validity l.number
