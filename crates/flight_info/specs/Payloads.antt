-- What the payloads of an answer say: each is a FlightData, whose header and body are an Arrow IPC
-- message.
use Rattle.std.specs.Prelude.{◌≡◌, ◌≤◌, ℕ, List, length, map, All, Ok}
use Rattle.scan_base.specs.Limits.{most_message_bytes}
use Rattle.scan_base.specs.Lists.{each}
use Rattle.arrow_types.specs.declared.schema.Schema.{Schema}
use Rattle.flight_proto.specs.FlightData.{DataSaid, data_of}
use Rattle.ipc_batch.specs.SaidRows.{Sent, Rows, Says}

-- the bytes of a call's or of an answer's message
abbrev pub Payload : Type 0
Payload = List ℕ

-- the IPC message that a FlightData carries
abbrev pub message_in : DataSaid → Sent
message_in carried = record { header = carried.data_header; body = carried.data_body }

-- the payloads of an answer say this schema and these rows: each carries a message
abbrev pub PayloadsSay : List Payload → Schema → Rows → Type 0
PayloadsSay payloads schema rows =
    (all : List DataSaid) × (each data_of payloads ≡ Ok all) × Says (map message_in all) schema rows

-- each payload fits a message of a call
unfoldable pub FitMessages : List Payload → Type 0
FitMessages payloads = All (λ payload. length payload ≤ most_message_bytes) payloads
