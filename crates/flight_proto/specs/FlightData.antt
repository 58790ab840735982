-- arrow.flight.protocol.FlightData: one message of a stream. The first one also has the descriptor
-- of the stream. It is read apart, since a descriptor after the first message is not read at all.
use Rattle.std.specs.Prelude.{ℕ, ◌==◌, List, [], ◌∷◌, ◌++◌, Option, Result, Ok, option_map}
use Rattle.std.specs.Prelude.{if◌then◌else◌}
use Rattle.scan_base.specs.declared.fault.Fault.{Fault}
use Rattle.scan_base.specs.Reading.{◌>>=◌}
use Rattle.proto_wire.specs.Standard.{Entry}
use Rattle.proto_wire.specs.Reading.{fields_of}
use Rattle.proto_wire.specs.Writing.{chunk_head}
use Rattle.proto_wire.specs.Calls.{chunk_entry}
use Rattle.flight_proto.specs.Lookup.{last_bytes, embedded_within}
use Rattle.flight_proto.specs.Message.{set_fields, embedded_field, spelled}
use Rattle.flight_proto.specs.FlightDescriptor.{DescriptorSaid, descriptor_in, descriptor_bytes}
use Rattle.flight_proto.specs.FlightDescriptor.{descriptor_said}
use Rattle.flight_proto.specs.declared.flight_data.FlightData.{FlightData}
use Rattle.flight_proto.specs.declared.flight_data.BorrowedData.{BorrowedData}
use Rattle.flight_proto.specs.declared.flight_data.StreamDescriptor.{StreamDescriptor}

-- ---- the descriptor of a stream

-- the descriptor in the first message of a stream: FlightDescriptor flight_descriptor = 1
abbrev pub stream_descriptor_of : List ℕ → Result (Option DescriptorSaid) Fault
stream_descriptor_of bytes = embedded_within descriptor_in 1 bytes

-- what the code holds
abbrev pub stream_said : StreamDescriptor → Option DescriptorSaid
stream_said stream = option_map descriptor_said stream.descriptor

-- ---- what each message of a stream carries

-- the header and the body
pub record DataSaid : Type 0 where
  pub data_header : List ℕ
  pub data_body : List ℕ

-- what the bytes carry: bytes data_header = 2, bytes data_body = 1000
abbrev pub data_of : List ℕ → Result DataSaid Fault
data_of bytes = do
  fields ← fields_of bytes
  Ok (record { data_header = last_bytes 2 fields; data_body = last_bytes 1000 fields })

-- the fields of a message of a stream
abbrev pub data_fields : Option DescriptorSaid → DataSaid → List Entry
data_fields descriptor carried =
    embedded_field 1 descriptor_bytes descriptor
    ++ set_fields (chunk_entry 2 carried.data_header ∷ chunk_entry 1000 carried.data_body ∷ [])

-- the bytes of a message of a stream
abbrev pub data_bytes : Option DescriptorSaid → DataSaid → List ℕ
data_bytes descriptor carried = spelled (data_fields descriptor carried)

-- the head of the field of a body of so many bytes, which is left out where the body is empty
abbrev pub body_head : ℕ → List ℕ
body_head len = if len == 0 then [] else chunk_head 1000 len

-- what is written before a body of so many bytes: the header's field, and the head of the body's
abbrev pub data_head : List ℕ → ℕ → List ℕ
data_head data_header len = spelled (set_fields (chunk_entry 2 data_header ∷ [])) ++ body_head len

-- what the code holds
abbrev pub data_said : FlightData → DataSaid
data_said carried = record { data_header = carried.data_header; data_body = carried.data_body }

abbrev pub borrowed_said : BorrowedData → DataSaid
borrowed_said carried =
    record { data_header = carried.data_header.now; data_body = carried.data_body.now }
