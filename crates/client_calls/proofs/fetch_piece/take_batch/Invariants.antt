use Rattle.std.proofs.Common.{◌≡◌, ◌≤◌, None}
use Rattle.grpc_frame.specs.declared.place.Place.TheVariants.{InAnswer}
use Rattle.grpc_frame.specs.Arrivals.{work_left}
use Rattle.grpc_frame.specs.Ends.{Tape}
use Rattle.grpc_frame.specs.Records.{Received}
use Rattle.flight_client.specs.Stream.{StreamAt}
use Rattle.client_calls.specs.Taking.{KeepsSchema, with_batch}
use Rattle.client_calls.specs.inside.Payloads.{HasTaken}
use Rattle.client_calls.proofs.fetch_piece.take_batch.Given as goal

-- what was taken so far says no batch
abbrev pub invariant-loop-batch : goal.invariant-loop-batch
invariant-loop-batch g l = record {
  place : l.inbox.place ≡ InAnswer;
  count : g.R.Input.failures l.reader ≡ g.R.Input.failures l.initial.reader;
  takes : (whole : StreamAt) (a : Tape) (old : Received) → whole.state ≡ l.initial.stream →
      HasTaken whole a (g.R.Input.tape l.initial.reader) old l.initial.inbox →
      HasTaken (with_batch whole l.stream None) a (g.R.Input.tape l.reader) old l.inbox;
  kept : KeepsSchema l.initial.stream l.stream;
  low : work_left (g.R.Input.turns l.reader) l.inbox ≤ work_left (g.R.Input.turns l.initial.reader) l.initial.inbox;
}

abbrev pub decreases-loop-batch : goal.decreases-loop-batch
decreases-loop-batch g l = work_left (g.R.Input.turns l.reader) l.inbox
