use Rattle.std.proofs.Common.{◌≡◌, ◌++◌, map, take, None}
use Rattle.flight_proto.specs.FlightData.{data_bytes}
use Rattle.client_calls.specs.Commands.{carried_in}
use Rattle.client_calls.proofs.put_call.append_payloads.Given as goal

-- those of the messages so far are added
abbrev pub invariant-loop-message : goal.invariant-loop-message
invariant-loop-message l = l.payloads.items ≡ l.fn.payloads.items ++ map (λ message. data_bytes None (carried_in message)) (take l.message-index l.messages)
