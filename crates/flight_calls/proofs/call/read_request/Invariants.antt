use Rattle.std.proofs.Common.{◌≡◌, ◌≤◌, List}
use Rattle.grpc_frame.specs.Arrivals.{work_left}
use Rattle.flight_info.specs.Payloads.{Payload}
use Rattle.flight_calls.specs.Requests.{Holds}
use Rattle.flight_calls.proofs.Taking.{Collected}
use Rattle.flight_calls.proofs.call.read_request.Given as goal

abbrev pub invariant-loop-request : goal.invariant-loop-request
invariant-loop-request g l = record {
  gathered : (messages : List Payload)
      × Collected (g.R.Input.tape l.initial.input) (g.R.Input.tape l.input) l.initial.inbox l.inbox messages
      × Holds l.request (record { path = l.path; messages = messages });
  count : g.R.Input.failures l.input ≡ g.R.Input.failures l.initial.input;
  fewer : work_left (g.R.Input.turns l.input) l.inbox ≤ work_left (g.R.Input.turns l.initial.input) l.initial.inbox;
}

abbrev pub decreases-loop-request : goal.decreases-loop-request
decreases-loop-request g l = work_left (g.R.Input.turns l.input) l.inbox
