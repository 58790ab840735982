-- What the calls of the reader and of the writers give.
use Rattle.std.specs.Prelude.{◌≡◌, ◌≢◌, ◌<◌, ℕ, List, [], ◌∷◌, length, map, flat_map, Option, Some}
use Rattle.std.specs.Prelude.{None, Result, Ok, Err}
use Rattle.scan_base.specs.declared.fault.Fault.{Fault}
use Rattle.scan_base.specs.declared.fault.Fault.TheVariants.{BadProto}
use Rattle.scan_base.specs.Reading.{◌>>=◌}
use Rattle.proto_wire.specs.declared.field.Field.{Field}
use Rattle.proto_wire.specs.declared.field.Payload.{Payload}
use Rattle.proto_wire.specs.declared.field.Payload.TheVariants as payloads
use Rattle.proto_wire.specs.Standard.{Content, Varint, Fixed64, Chunk, Fixed32, Entry}
use Rattle.proto_wire.specs.Standard.{IsFieldNumber, StandsInFront}
use Rattle.proto_wire.specs.Reading.{field_at, fields_of}
use Rattle.proto_wire.specs.Writing.{field_spelling}

-- ---- a field of the code, without where it lies in memory

-- what a field holds
abbrev pub content_of : Payload → Content
content_of (payloads.Varint value) = Varint value
content_of (payloads.Fixed64 value) = Fixed64 value
content_of (payloads.Bytes bytes) = Chunk bytes.now
content_of (payloads.Fixed32 value) = Fixed32 value

-- the field
abbrev pub entry_of : Field → Entry
entry_of field = record { number = field.number; content = content_of field.payload }

-- ---- the reader, by the bytes that are left before and after the call

-- by reading: this field, nothing at the end, or the fault with nothing changed
abbrev pub ReadsFront : Result (Option Field) Fault → List ℕ → List ℕ → Type 0
ReadsFront (Ok (Some field)) old new = field_at old ≡ Ok (entry_of field, new)
ReadsFront (Ok None) old new = (old ≡ []) × (new ≡ [])
ReadsFront (Err fault) old new =
    (fault ≡ BadProto) × (old ≢ []) × (field_at old ≡ Err BadProto) × (new ≡ old)

-- in the standard's words: this field stands in front, nothing is left, or no field stands in front
abbrev pub KeepsStandard : Result (Option Field) Fault → List ℕ → List ℕ → Type 0
KeepsStandard (Ok (Some field)) old new = StandsInFront (entry_of field) old new
KeepsStandard (Ok None) old new = (old ≡ []) × (new ≡ [])
KeepsStandard (Err fault) old new =
    (old ≢ []) × ((entry : Entry) (rest : List ℕ) → ¬ StandsInFront entry old rest) × (new ≡ old)

-- by the list of all the fields that are left
abbrev pub ReadsOn : Result (Option Field) Fault → List ℕ → List ℕ → Type 0
ReadsOn (Ok (Some field)) old new =
    (fields_of old ≡ (fields_of new >>= λ entries. Ok (entry_of field ∷ entries)))
    × (length new < length old)
ReadsOn (Ok None) old new = fields_of old ≡ Ok []
ReadsOn (Err fault) old new = fields_of old ≡ Err fault

-- ---- the writers

-- each field has a number that a field may have
abbrev pub HaveFieldNumbers : List Field → Type 0
HaveFieldNumbers [] = Unit {0}
HaveFieldNumbers (field ∷ fields) = IsFieldNumber field.number × HaveFieldNumbers fields

-- a field that holds a number as a varint
abbrev pub varint_entry : ℕ → ℕ → Entry
varint_entry number value = record { number = number; content = Varint value }

-- a field that holds bytes
abbrev pub chunk_entry : ℕ → List ℕ → Entry
chunk_entry number chunk = record { number = number; content = Chunk chunk }

-- the bytes of a message of these fields
abbrev pub message_of : List Field → List ℕ
message_of fields = flat_map field_spelling (map entry_of fields)

-- the field that embeds a message of these fields
abbrev pub message_entry : ℕ → List Field → Entry
message_entry number fields = chunk_entry number (message_of fields)
