-- What is written for a call.
use Rattle.std.specs.Prelude.{◌≤◌, ℕ, List, [], ◌∷◌, ◌++◌, length, map, All, codes}
use Rattle.std.specs.List.{flat_map}
use Rattle.scan_base.specs.Limits.{most_message_bytes}
use Rattle.grpc_frame.specs.declared.record.Record.{Record}
use Rattle.grpc_frame.specs.declared.record.Record.TheVariants.{Open, Message, End}
use Rattle.grpc_frame.specs.Records.{spelling}
use Rattle.flight_info.specs.Payloads.{Payload}
use Rattle.client_calls.specs.declared.call.Method.{Method}
use Rattle.client_calls.specs.declared.call.Method.TheVariants.{DoPut, GetFlightInfo, DoGet}
use Rattle.client_calls.specs.declared.call.Method.TheVariants.{DoAction}

-- the service's part of a path
abbrev pub service : List ℕ
service = codes "/arrow.flight.protocol.FlightService/"

-- the path of a method
abbrev pub path_of : Method → List ℕ
path_of DoPut = service ++ codes "DoPut"
path_of GetFlightInfo = service ++ codes "GetFlightInfo"
path_of DoGet = service ++ codes "DoGet"
path_of DoAction = service ++ codes "DoAction"

-- the records of a call
abbrev pub call_records : Method → List Payload → List Record
call_records method messages = Open (path_of method) ∷ (map Message messages ++ End ∷ [])

-- its bytes
abbrev pub call_bytes : Method → List Payload → List ℕ
call_bytes method messages = flat_map spelling (call_records method messages)

-- each message fits a record
abbrev pub Fit : List Payload → Type 0
Fit messages = All (λ message. length message ≤ most_message_bytes) messages
