use Rattle.array_select.proofs.GatheredValues.{bools_at}
use Rattle.array_select.proofs.at_places.gather_bools.Goals as goal

pub returns : goal.returns
returns c =
    bools_at c.args.cells.now c.in_ok-gather.field-0 c.values.result.now c.args.first c.args.places.now c.values.ensures c.in_ok-gather.ensures.value
