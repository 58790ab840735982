use Rattle.std.proofs.Common.{◌≡◌, []}
use Rattle.grpc_frame.specs.Arrivals.{work_left}
use Rattle.grpc_frame.specs.Outgoing.{IsQuiet}
use Rattle.flight_calls.specs.OwedAnswers.{connection_of}
use Rattle.flight_calls.proofs.Serving.{Progress}
use Rattle.flight_calls.proofs.server.serve_calls.Given as goal

abbrev pub invariant-loop-request : goal.invariant-loop-request
invariant-loop-request g l = record {
  progress : Progress g.B.Backend.moves l.setting.options
      (connection_of (g.R.Input.tape l.initial.reader) l.initial.sender.held
      (g.R.Input.failures l.initial.reader) l.initial.sender.failures (g.B.Backend.seat l.initial.backend))
      (connection_of (g.R.Input.tape l.reader) l.sender.held
      (g.R.Input.failures l.reader) l.sender.failures (g.B.Backend.seat l.backend))
      l.inbox;
  reads : g.R.Input.failures l.reader ≡ g.R.Input.failures l.initial.reader;
  empty : l.sender.waiting ≡ [];
  quiet : IsQuiet l.initial.sender l.sender;
}

abbrev pub decreases-loop-request : goal.decreases-loop-request
decreases-loop-request g l = work_left (g.R.Input.turns l.reader) l.inbox
