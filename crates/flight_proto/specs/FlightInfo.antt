-- arrow.flight.protocol.FlightInfo: where the rows of a query are fetched, and what they are.
use Rattle.std.specs.Prelude.{ℕ, ℤ, negsuc, Bool, true, false, List, [], ◌∷◌, ◌++◌, map, Result, Ok}
use Rattle.std.specs.Int.{w64, cast_unsigned}
use Rattle.scan_base.specs.declared.fault.Fault.{Fault}
use Rattle.scan_base.specs.Lists.{each}
use Rattle.scan_base.specs.Reading.{◌>>=◌}
use Rattle.proto_wire.specs.Standard.{Entry}
use Rattle.proto_wire.specs.Reading.{fields_of}
use Rattle.proto_wire.specs.Calls.{varint_entry, chunk_entry}
use Rattle.flight_proto.specs.Lookup.{chunks, last_bytes, last_text, last_varint, is_present}
use Rattle.flight_proto.specs.Lookup.{joined, parts_in}
use Rattle.flight_proto.specs.Message.{bool_of, bool_number, int64_of, set_fields, spelled}
use Rattle.flight_proto.specs.FlightDescriptor.{descriptor_in}
use Rattle.flight_proto.specs.declared.flight_info.FlightEndpoint.{FlightEndpoint}
use Rattle.flight_proto.specs.declared.flight_info.FlightInfo.{FlightInfo}

-- ---- Location: string uri = 1

-- the URI of a location
abbrev pub location_of : List ℕ → Result (List ℕ) Fault
location_of bytes = fields_of bytes >>= last_text 1

-- ---- FlightEndpoint: Ticket ticket = 1, repeated Location location = 2,
-- ---- Timestamp expiration_time = 3

-- the bytes of the Ticket message, which a fetch takes as its one message, and whether a location
-- is named
pub record EndpointSaid : Type 0 where
  pub ticket : List ℕ
  pub has_location : Bool

-- an endpoint by its fields
abbrev pub endpoint_by : List Entry → EndpointSaid
endpoint_by fields = record { ticket = joined 1 fields; has_location = is_present 2 fields }

-- an endpoint, whose ticket, locations and time read as messages
abbrev pub endpoint_of : List ℕ → Result EndpointSaid Fault
endpoint_of bytes = do
  fields ← fields_of bytes
  _ ← parts_in 1 fields
  locations ← parts_in 2 fields
  _ ← last_text 1 locations
  _ ← parts_in 3 fields
  Ok (endpoint_by fields)

-- the bytes of an endpoint of this ticket, which names no location
abbrev pub endpoint_bytes : List ℕ → List ℕ
endpoint_bytes ticket = spelled (chunk_entry 1 ticket ∷ [])

-- its field in an info
abbrev pub endpoint_field : List ℕ → Entry
endpoint_field ticket = chunk_entry 3 (endpoint_bytes ticket)

-- ---- FlightInfo: bytes schema = 1, FlightDescriptor flight_descriptor = 2, repeated
-- ---- FlightEndpoint endpoint = 3, int64 total_records = 4, int64 total_bytes = 5, bool ordered =
-- ---- 6

-- the schema in IPC form, the bytes of the descriptor, the endpoints, how many rows and bytes (-1:
-- not known), and whether the rows stand in the order of the endpoints
pub record InfoSaid : Type 0 where
  pub schema : List ℕ
  pub descriptor : List ℕ
  pub endpoints : List EndpointSaid
  pub total_records : ℤ
  pub total_bytes : ℤ
  pub ordered : Bool

-- an info, whose descriptor reads as one
unfoldable pub info_of : List ℕ → Result InfoSaid Fault
info_of bytes = do
  fields ← fields_of bytes
  descriptor ← parts_in 2 fields
  _ ← descriptor_in descriptor
  endpoints ← each endpoint_of (chunks 3 fields)
  Ok (record {
    schema = last_bytes 1 fields;
    descriptor = joined 2 fields;
    endpoints = endpoints;
    total_records = int64_of (last_varint 4 fields);
    total_bytes = int64_of (last_varint 5 fields);
    ordered = bool_of (last_varint 6 fields);
  })

-- the fields after the endpoints
abbrev pub totals : ℤ → ℤ → Bool → List Entry
totals total_records total_bytes ordered =
    set_fields (varint_entry 4 (cast_unsigned w64 total_records)
    ∷ varint_entry 5 (cast_unsigned w64 total_bytes)
    ∷ varint_entry 6 (bool_number ordered)
    ∷ [])

-- the fields of an info that names no location; the bytes of its descriptor stand as they are
abbrev pub info_fields : InfoSaid → List Entry
info_fields info =
    set_fields (chunk_entry 1 info.schema ∷ [])
    ++ (chunk_entry 2 info.descriptor
    ∷ (map (λ endpoint. endpoint_field endpoint.ticket) info.endpoints
    ++ totals info.total_records info.total_bytes info.ordered))

-- the bytes of an info that names no location
unfoldable pub info_bytes : InfoSaid → List ℕ
info_bytes info = spelled (info_fields info)

-- the info of these tickets in their order, each without a location; how many rows they give is not
-- known
abbrev pub info_with : List ℕ → List ℕ → List (List ℕ) → InfoSaid
info_with schema descriptor tickets = record {
  schema = schema;
  descriptor = descriptor;
  endpoints = map (λ ticket. record { ticket = ticket; has_location = false }) tickets;
  total_records = negsuc 0;
  total_bytes = negsuc 0;
  ordered = true;
}

-- ---- what the code holds

-- an endpoint
abbrev pub endpoint_said : FlightEndpoint → EndpointSaid
endpoint_said endpoint =
    record { ticket = endpoint.ticket.items; has_location = endpoint.has_location }

-- an info
abbrev pub info_said : FlightInfo → InfoSaid
info_said info = record {
  schema = info.schema.now;
  descriptor = info.descriptor.items;
  endpoints = map endpoint_said info.endpoints.items;
  total_records = info.total_records;
  total_bytes = info.total_bytes;
  ordered = info.ordered;
}
