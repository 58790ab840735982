use Rattle.std.proofs.Common.{◌≡◌, []}
use Rattle.std.specs.Prelude.{◌≤◌}
use Rattle.grpc_frame.specs.Ends.{Advances, tape_of}
use Rattle.grpc_frame.proofs.counted_end.CountedEndInput.read.Given as goal

abbrev pub invariant-loop-self : goal.invariant-loop-self
invariant-loop-self g l = record {
  none : Advances (tape_of l.initial.self.given.bytes (g.R.Read.remaining l.initial.self.end)) (tape_of l.self.given.bytes (g.R.Read.remaining l.self.end)) [];
  count : l.self.failures ≡ l.initial.self.failures;
  fewer : l.self.turns ≤ l.initial.self.turns;
}

abbrev pub decreases-loop-self : goal.decreases-loop-self
decreases-loop-self g l = l.self.turns
