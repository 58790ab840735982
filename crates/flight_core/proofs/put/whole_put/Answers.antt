use Rattle.flight_core.proofs.Storing.{stored_typed}
use Rattle.flight_core.proofs.put.whole_put.Goals as goal

pub new-requires-clause-typed : goal.new-requires-clause-typed
new-requires-clause-typed c = stored_typed _ c.in-Some-into_schema.schema c.begun.inside.batches.items (rw c.in-Some-into_schema.is at c.into_schema.ensures.value) c.begun.invariant
