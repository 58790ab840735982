use Rattle.std.proofs.Common.{refl}
use Rattle.std.specs.Arc.{arc_value}
use Rattle.array_select.proofs.GatheredValues.{indices_at}
use Rattle.array_select.proofs.at_places.gather_indices.Goals as goal

pub returns : goal.returns
returns c = λ validity valid.
    let cells = c.args.cells.now in
    let made = indices_at cells c.index_type-index.result validity c.in_ok-packed.packed c.in_ok-gather_packed.field-0.items c.values.result.now (arc_value c.in_ok-share_dictionary.field-0) c.args.first c.args.places.now
    c.len-count.ensures.stands c.requires c.index_type-index.ensures c.in_ok-packed.ensures.ok c.values.ensures c.in_ok-share_dictionary.ensures valid c.in_ok-gather_packed.ensures in
    (record { stand = made.0; count = refl }, made.1)
