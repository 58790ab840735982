use Rattle.std.proofs.Common.{◌≡◌, ◌≤◌}
use Rattle.grpc_frame.specs.Arrivals.{work_left}
use Rattle.grpc_frame.proofs.Coming.{Came}
use Rattle.grpc_frame.proofs.inbox.Inbox.next_from.Given as goal

abbrev pub invariant-loop-record : goal.invariant-loop-record
invariant-loop-record g l = record {
  came : Came (g.R.Input.tape l.initial.input) (g.R.Input.tape l.input) l.initial.self l.self;
  count : g.R.Input.failures l.input ≡ g.R.Input.failures l.initial.input;
  fewer : work_left (g.R.Input.turns l.input) l.self ≤ work_left (g.R.Input.turns l.initial.input) l.initial.self;
}

abbrev pub decreases-loop-record : goal.decreases-loop-record
decreases-loop-record g l = work_left (g.R.Input.turns l.input) l.self
