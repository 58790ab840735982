-- What holds of all statuses, and of all streams.
use Rattle.std.specs.Prelude.{◌≡◌, ◌↔◌, ℕ, List, Some, Result, Ok}
use Rattle.scan_base.specs.declared.fault.Fault.{Fault}
use Rattle.ipc_batch.specs.SaidRows.{Rows}
use Rattle.arrow_types.specs.declared.schema.Schema.{Schema}
use Rattle.flight_info.specs.Payloads.{Payload, PayloadsSay}
use Rattle.flight_client.specs.Status.{HasStatus, StatusSays}
use Rattle.flight_client.specs.Stream.{StreamAt, Came, schema_said}

-- a code and a text tell the fault, and so a status stands for one thing
abbrev pub StatusesTellFaults : Type 0
StatusesTellFaults =
    ((one other : Fault) (code : ℕ) (text : List ℕ) → HasStatus one code text →
    HasStatus other code text → one ≡ other)
    × ((code : ℕ) (text : List ℕ) (one other : Result (Unit {0}) Fault) →
    StatusSays code text one → StatusSays code text other → one ≡ other)

-- a stream to which payloads came, and then status 0, has just the schema that they say, and just
-- the rows
abbrev pub StreamsHoldWhatIsSaid : Type 0
StreamsHoldWhatIsSaid = (payloads : List Payload) (stream : StreamAt) (schema : Schema)
    (rows : Rows) → Came payloads stream → stream.end ≡ Some (Ok tt) →
    PayloadsSay payloads schema rows ↔ ((schema_said stream ≡ Ok schema) × (stream.rows ≡ rows))
