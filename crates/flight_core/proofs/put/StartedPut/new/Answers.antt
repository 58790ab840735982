use Rattle.flight_core.proofs.Storing.{none_stored}
use Rattle.flight_core.proofs.put.StartedPut.new.Goals as goal

pub invariant_of-result : goal.invariant_of-result
invariant_of-result c = rw c.new-3.ensures.items (none_stored c.new-2.result)
