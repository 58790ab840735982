use Rattle.std.proofs.Common.{take}
use Rattle.grpc_frame.specs.Outgoing.{IsSent}
use Rattle.flight_calls.proofs.Writing.{messages_bytes}
use Rattle.flight_calls.proofs.answer.send_parcel.Given as goal

abbrev pub invariant-loop-payload : goal.invariant-loop-payload
invariant-loop-payload g l = IsSent l.initial.sender l.sender (messages_bytes (take l.payload-index l.payload-items))
