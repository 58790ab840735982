use Rattle.flight_core.proofs.Storing.{front_stored}
use Rattle.flight_core.proofs.put.StartedPut.push.Goals as goal

pub invariant_of-self-in_err-push : goal.invariant_of-self-in_err-push
invariant_of-self-in_err-push c = rw c.in_err-push.ensures.items (front_stored _ _ _ (c.in_ok-batch.ensures.stored _ c.self.invariant))

pub invariant_of-self-in_err-new : goal.invariant_of-self-in_err-new
invariant_of-self-in_err-new c = front_stored _ _ _ (c.in_ok-batch.ensures.stored _ c.self.invariant)
