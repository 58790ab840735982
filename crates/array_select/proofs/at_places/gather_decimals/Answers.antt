use Rattle.array_select.proofs.GatheredValues.{decimals_at}
use Rattle.array_select.proofs.at_places.gather_decimals.Goals as goal

pub returns : goal.returns
returns c =
    decimals_at c.args.cells.now c.in_ok-packed.packed c.in_ok-gather_elements.field-0.items c.values.result.now c.args.first c.args.places.now
    c.in_ok-packed.ensures.ok c.values.ensures (rw c.as_slice.ensures at c.are_bytes.ensures) c.in_ok-gather_elements.ensures
