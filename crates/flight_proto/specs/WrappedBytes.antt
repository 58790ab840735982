-- Messages of one field, which is bytes: Ticket (ticket = 1), TicketStatementQuery
-- (statement_handle = 1), PutResult (app_metadata = 1), SchemaResult (schema = 1) and Result (body
-- = 1). What such a message says is those bytes.
use Rattle.std.specs.Prelude.{ℕ, List, [], ◌∷◌, Result}
use Rattle.scan_base.specs.declared.fault.Fault.{Fault}
use Rattle.proto_wire.specs.Calls.{chunk_entry}
use Rattle.flight_proto.specs.Lookup.{bytes_within}
use Rattle.flight_proto.specs.Message.{set_fields, spelled}

-- what a message of one field says
abbrev pub wrapped_of : List ℕ → Result (List ℕ) Fault
wrapped_of message = bytes_within 1 message

-- the message that says these bytes
abbrev pub wrapped_bytes : List ℕ → List ℕ
wrapped_bytes bytes = spelled (set_fields (chunk_entry 1 bytes ∷ []))
