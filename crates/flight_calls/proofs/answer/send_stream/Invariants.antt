use Rattle.std.proofs.Common.{◌+◌}
use Rattle.fetch_stream.proofs.Answering.{turns}
use Rattle.flight_calls.proofs.Streaming.{HasSent}
use Rattle.flight_calls.proofs.answer.send_stream.Given as goal

abbrev pub invariant-loop-parcel : goal.invariant-loop-parcel
invariant-loop-parcel g l = HasSent (g.P.Payloads.stream l.initial.payloads) (g.P.Payloads.stream l.payloads) l.initial.sender l.sender

abbrev pub decreases-loop-parcel : goal.decreases-loop-parcel
decreases-loop-parcel g l = turns (g.P.Payloads.stream l.payloads) + l.looks
