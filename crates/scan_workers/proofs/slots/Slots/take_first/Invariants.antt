use Rattle.std.proofs.Common.{◌≡◌}
use Rattle.scan_workers.proofs.slots.Slots.take_first.Given as goal

abbrev pub invariant-loop-number : goal.invariant-loop-number
invariant-loop-number g l = l.self.held ≡ l.initial.self.held
