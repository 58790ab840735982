-- Inside: the beginning of a put's first message.
use Rattle.std.specs.Prelude.{ℕ, List, [], ◌∷◌, ◌++◌, Some, None}
use Rattle.flight_proto.specs.FlightData.{data_bytes}
use Rattle.flight_info.specs.Payloads.{Payload}
use Rattle.ipc_stream.specs.declared.message.IpcMessage.{IpcMessage}
use Rattle.client_calls.specs.declared.put_call.Target.{Target}
use Rattle.client_calls.specs.Commands.{put_descriptor, carried_in}

-- the descriptor alone
abbrev pub put_command_bytes : Target → List ℕ
put_command_bytes target =
    data_bytes (Some (put_descriptor target)) (record { data_header = []; data_body = [] })

-- the first message of a put: the descriptor, and after it what the stream's first message is
-- without one
abbrev pub first_payload : Target → List IpcMessage → Payload
first_payload target [] = put_command_bytes target
first_payload target (first ∷ others) =
    put_command_bytes target ++ data_bytes None (carried_in first)
