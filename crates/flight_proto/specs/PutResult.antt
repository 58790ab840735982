-- What answers a put: arrow.flight.protocol.PutResult, and in its metadata
-- arrow.flight.protocol.sql.DoPutUpdateResult.
use Rattle.std.specs.Prelude.{ℕ, ℤ, List, [], ◌∷◌, Result, Ok}
use Rattle.std.specs.Int.{w64, cast_unsigned}
use Rattle.scan_base.specs.declared.fault.Fault.{Fault}
use Rattle.scan_base.specs.Reading.{◌>>=◌}
use Rattle.proto_wire.specs.Reading.{fields_of}
use Rattle.proto_wire.specs.Calls.{varint_entry}
use Rattle.flight_proto.specs.Lookup.{last_varint}
use Rattle.flight_proto.specs.Message.{int64_of, set_fields, spelled}
use Rattle.flight_proto.specs.WrappedBytes.{wrapped_of, wrapped_bytes}

-- the count of a DoPutUpdateResult: int64 record_count = 1
abbrev pub update_of : List ℕ → Result ℤ Fault
update_of bytes = fields_of bytes >>= λ fields. Ok (int64_of (last_varint 1 fields))

-- how many rows were put, as a PutResult says it
abbrev pub rows_put_of : List ℕ → Result ℤ Fault
rows_put_of bytes = wrapped_of bytes >>= update_of

-- the DoPutUpdateResult of a count
abbrev pub update_bytes : ℤ → List ℕ
update_bytes record_count =
    spelled (set_fields (varint_entry 1 (cast_unsigned w64 record_count) ∷ []))

-- the PutResult that says how many rows were put
abbrev pub rows_put_bytes : ℤ → List ℕ
rows_put_bytes rows = wrapped_bytes (update_bytes rows)
