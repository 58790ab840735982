-- arrow.flight.protocol.FlightDescriptor: what a call or a stream is about.
use Rattle.std.specs.Prelude.{ℕ, List, [], ◌∷◌, Result, Ok}
use Rattle.scan_base.specs.declared.fault.Fault.{Fault}
use Rattle.scan_base.specs.Reading.{◌>>=◌}
use Rattle.proto_wire.specs.Standard.{Entry}
use Rattle.proto_wire.specs.Reading.{fields_of}
use Rattle.proto_wire.specs.Calls.{varint_entry, chunk_entry}
use Rattle.flight_proto.specs.Lookup.{last_bytes, last_text, last_varint}
use Rattle.flight_proto.specs.Message.{enum_of, set_fields, spelled}
use Rattle.flight_proto.specs.declared.flight_descriptor.FlightDescriptor.{FlightDescriptor}

-- what a descriptor says
pub record DescriptorSaid : Type 0 where
  pub descriptor_type : ℕ
  pub cmd : List ℕ

-- a descriptor by its fields: DescriptorType type = 1, bytes cmd = 2, repeated string path = 3, of
-- which no text is kept
abbrev pub descriptor_in : List Entry → Result DescriptorSaid Fault
descriptor_in fields = do
  _ ← last_text 3 fields
  Ok (record { descriptor_type = enum_of (last_varint 1 fields); cmd = last_bytes 2 fields })

-- the descriptor that the bytes are
abbrev pub descriptor_of : List ℕ → Result DescriptorSaid Fault
descriptor_of bytes = fields_of bytes >>= descriptor_in

-- the fields of a descriptor
abbrev pub descriptor_fields : DescriptorSaid → List Entry
descriptor_fields descriptor =
    set_fields (varint_entry 1 descriptor.descriptor_type ∷ chunk_entry 2 descriptor.cmd ∷ [])

-- the bytes of a descriptor
abbrev pub descriptor_bytes : DescriptorSaid → List ℕ
descriptor_bytes descriptor = spelled (descriptor_fields descriptor)

-- what the code holds
abbrev pub descriptor_said : FlightDescriptor → DescriptorSaid
descriptor_said descriptor =
    record { descriptor_type = descriptor.descriptor_type; cmd = descriptor.cmd.now }
