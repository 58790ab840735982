use Rattle.std.proofs.Common.{subst}
use Rattle.arrays.specs.declared.layout.Layout.{Layout}
use Rattle.arrays.specs.Layout.{layout_count}
use Rattle.array_select.specs.inside.GatheredSlots.{AreValuesAt}
use Rattle.arrays.proofs.ValidSlots.{validity_long}
use Rattle.array_select.proofs.at_places.gather_slots.Goals as goal

pub gather_validity-requires : goal.gather_validity-requires
gather_validity-requires c = (layout_count c.args.slots.now, rw c.validity.ensures (validity_long c.args.slots.now c.len-count.ensures.stands), c.requires)

pub from_parts-requires : goal.from_parts-requires
from_parts-requires c =
    ((subst (λ (slots : Layout). AreValuesAt c.in_ok-values.values slots c.args.first c.args.places.now) c.layout.ensures.value c.in_ok-values.ensures)
    c.in_ok-validity.validity (rw c.validity.ensures at c.in_ok-validity.ensures)).0

pub returns : goal.returns
returns c =
    rw c.from_parts.ensures ((subst (λ (slots : Layout). AreValuesAt c.in_ok-values.values slots c.args.first c.args.places.now) c.layout.ensures.value c.in_ok-values.ensures)
    c.in_ok-validity.validity (rw c.validity.ensures at c.in_ok-validity.ensures)).1
