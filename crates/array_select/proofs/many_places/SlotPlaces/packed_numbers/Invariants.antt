use Rattle.std.proofs.Common.{map}
use Rattle.arrays.specs.Number.{cell_width, number_in}
use Rattle.array_select.specs.inside.GatheredMany.{columns_of, HaveNumbers}
use Rattle.array_select.proofs.many_places.SlotPlaces.packed_numbers.Given as goal

abbrev pub invariant-loop-column : goal.invariant-loop-column
invariant-loop-column l =
    HaveNumbers (number_in l.cell) (cell_width l.cell) (map (λ source. source.now) l.sources.items) (columns_of l.self) l.column-index
