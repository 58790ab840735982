use Rattle.std.proofs.Common.{◌∙◌, ap}
use Rattle.arrays.specs.Column.{values_of}
use Rattle.array_select.proofs.Gathered.{places_among, values_gathered}
use Rattle.array_select.proofs.at_places.gather.Goals as goal

pub gather_slots-requires : goal.gather_slots-requires
gather_slots-requires c =
    rw (c.places.ensures.value, c.first.ensures, c.slots.ensures)
    (places_among c.args.column.now c.args.places.now c.len-len.ensures.stands c.places.ensures.rising c.requires.within)

pub returns-clause-values : goal.returns-clause-values
returns-clause-values c =
    ap values_of c.new.ensures
    ∙ values_gathered c.in_ok-gathered.gathered c.args.column.now c.args.places.now (rw (c.places.ensures.value, c.first.ensures, c.slots.ensures) at c.in_ok-gathered.ensures)
