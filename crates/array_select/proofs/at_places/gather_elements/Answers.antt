use Rattle.std.proofs.Common.{refl}
use Rattle.array_select.proofs.Gathered.{elements_more, no_elements}
use Rattle.array_select.proofs.at_places.gather_elements.Goals as goal

pub loop-place-init : goal.loop-place-init
loop-place-init g c = no_elements g.row.WIDTH c.in_ok-packed.packed.items c.args.values.now c.args.first c.args.places.now c.in_ok-packed.ensures.items

pub loop-place-preserved : goal.loop-place-preserved
loop-place-preserved g c =
    let i = c.loop-place.place-index in
    elements_more g.row.WIDTH c.loop-place.packed.items c.extend_from_slice.new.self.items c.args.values.now c.args.first c.args.places.now i _ _
    refl refl (c.requires.within i c.loop-place-test.true) c.in_ok-extend_from_slice.ensures.items c.loop-place.invariant
