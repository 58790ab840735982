use Rattle.std.proofs.Common.{◌≡◌, List}
use Rattle.grpc_frame.specs.Arrivals.{work_left}
use Rattle.flight_info.specs.Payloads.{Payload}
use Rattle.flight_client.specs.Stream.{Came}
use Rattle.client_calls.proofs.Taking.{Taken}
use Rattle.client_calls.proofs.answer.read_stream.Given as goal

-- the payloads so far came to the stream
abbrev pub invariant-loop-stream : goal.invariant-loop-stream
invariant-loop-stream g l = record {
  taken : (payloads : List Payload)
      × Taken (g.R.Input.tape l.fn.reader) (g.R.Input.tape l.reader) l.fn.inbox l.inbox payloads
      × Came payloads l.stream;
  count : g.R.Input.failures l.reader ≡ g.R.Input.failures l.fn.reader;
}

abbrev pub decreases-loop-stream : goal.decreases-loop-stream
decreases-loop-stream g l = work_left (g.R.Input.turns l.reader) l.inbox
