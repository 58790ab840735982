use Rattle.std.proofs.Common.{ℕ, ◌≤◌, ◌<◌}
use Rattle.flight_client.specs.Status.{HasStatus}
use Rattle.flight_client.specs.inside.NumberedFaults.{fault_numbered}
use Rattle.flight_client.proofs.status.fault_of_status.Given as goal

abbrev pub invariant-loop-number : goal.invariant-loop-number
invariant-loop-number l = (k : ℕ) → k < l.number → 1 ≤ k → ¬ HasStatus (fault_numbered k l.position) l.code l.text
