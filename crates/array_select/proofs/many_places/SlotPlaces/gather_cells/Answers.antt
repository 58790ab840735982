use Rattle.std.proofs.Common.{map, ◌∙◌}
use Rattle.array_select.proofs.GatheredMany.{no_cells, cells_more}
use Rattle.array_select.proofs.many_places.SlotPlaces.gather_cells.Goals as goal

pub loop-number-init : goal.loop-number-init
loop-number-init g c =
    no_cells g.row.WIDTH c.in_ok-packed.packed.items (map (λ source. source.now) c.args.sources.now) c.args.self.now.places.now c.args.validity.now c.in_ok-packed.ensures.items

pub loop-number-preserved : goal.loop-number-preserved
loop-number-preserved g c =
    cells_more g.row.WIDTH c.loop-number.packed.items c.extend_from_slice.new.self.items c.cell.result.now (map (λ source. source.now) c.args.sources.now)
    c.args.self.now.places.now c.args.validity.now c.loop-number.number c.in_ok-extend_from_slice.ensures.items c.cell.ensures.long
    (λ valid. c.cell.ensures.cell (c.is_valid-valid.ensures ∙ valid)) c.loop-number.invariant
