use Rattle.array_select.proofs.GatheredValues.{integers_at}
use Rattle.array_select.proofs.at_places.gather_integers.Goals as goal

pub returns : goal.returns
returns c =
    integers_at c.args.cells.now c.integer_type-integer.result c.in_ok-packed.packed c.in_ok-gather_packed.field-0.items c.values.result.now c.args.first c.args.places.now
    c.integer_type-integer.ensures c.in_ok-packed.ensures.ok c.values.ensures (rw c.as_slice.ensures at c.are_bytes.ensures) c.in_ok-gather_packed.ensures
