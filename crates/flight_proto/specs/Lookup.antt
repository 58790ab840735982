-- What a message says is looked up in the list of its fields, by their numbers. A field of an
-- unknown number is passed over, and so is one of a known number and another wire type.
use Rattle.std.specs.Prelude.{ℕ, ◌==◌, Bool, is_some, List, [], ◌∷◌, ◌++◌, flat_map, filter_map}
use Rattle.std.specs.Prelude.{Option, Some, None, Result, Ok, unwrap_or, if◌then◌else◌}
use Rattle.std.specs.List.{list_all, last_or}
use Rattle.std.specs.Str.{is_utf8}
use Rattle.scan_base.specs.declared.fault.Fault.{Fault}
use Rattle.scan_base.specs.declared.fault.Fault.TheVariants.{BadProto}
use Rattle.scan_base.specs.Reading.{◌>>=◌, demand}
use Rattle.proto_wire.specs.Standard.{Content, Varint, Chunk, Entry}
use Rattle.proto_wire.specs.Reading.{fields_of}

-- ---- what the fields of a number hold

-- the bytes, of a field that holds bytes
abbrev pub chunk_of : Content → Option (List ℕ)
chunk_of (Chunk bytes) = Some bytes
chunk_of other = None

-- the number, of a field that holds a varint
abbrev pub varint_of : Content → Option ℕ
varint_of (Varint value) = Some value
varint_of other = None

-- what a field holds, where it is of this number
abbrev pub held : {A : Type 0} → (Content → Option A) → ℕ → Entry → Option A
held of number field = if field.number == number then of field.content else None

-- the bytes of each field of this number, in their order
abbrev pub chunks : ℕ → List Entry → List (List ℕ)
chunks number fields = filter_map (held chunk_of number) fields

-- the varint of each field of this number, in their order
abbrev pub varints : ℕ → List Entry → List ℕ
varints number fields = filter_map (held varint_of number) fields

-- ---- scalars: the last value counts

-- the last bytes, where there are any
abbrev pub last_chunk : ℕ → List Entry → Option (List ℕ)
last_chunk number fields = last_or None (chunks number fields)

-- a field of bytes: at its default it is empty
abbrev pub last_bytes : ℕ → List Entry → List ℕ
last_bytes number fields = unwrap_or (last_chunk number fields) []

-- a number: at its default it is 0
abbrev pub last_varint : ℕ → List Entry → ℕ
last_varint number fields = unwrap_or (last_or None (varints number fields)) 0

-- a field of bytes is there
abbrev pub is_present : ℕ → List Entry → Bool
is_present number fields = is_some (last_chunk number fields)

-- each string of this number is UTF-8, also where another takes its place
abbrev pub are_texts : ℕ → List Entry → Bool
are_texts number fields = list_all is_utf8 (chunks number fields)

-- the bytes that a field of these bytes holds
abbrev pub bytes_within : ℕ → List ℕ → Result (List ℕ) Fault
bytes_within number bytes = fields_of bytes >>= λ fields. Ok (last_bytes number fields)

-- a string: at its default it is empty
abbrev pub last_text : ℕ → List Entry → Result (List ℕ) Fault
last_text number fields =
    demand (are_texts number fields) BadProto >>= λ _. Ok (last_bytes number fields)

-- ---- embedded messages: those that come again are merged

-- the bytes of an embedded message
abbrev pub joined : ℕ → List Entry → List ℕ
joined number fields = flat_map (λ chunk. chunk) (chunks number fields)

-- the fields of an embedded message: those of its parts in their order, each of which reads by
-- itself
unfoldable pub fields_of_parts : List (List ℕ) → Result (List Entry) Fault
fields_of_parts [] = Ok []
fields_of_parts (part ∷ parts) = do
  first ← fields_of part
  others ← fields_of_parts parts
  Ok (first ++ others)

-- the fields of the embedded message of this number
abbrev pub parts_in : ℕ → List Entry → Result (List Entry) Fault
parts_in number fields = fields_of_parts (chunks number fields)

-- the fields of the embedded message of this number, in these bytes
abbrev pub parts_within : ℕ → List ℕ → Result (List Entry) Fault
parts_within number bytes = fields_of bytes >>= parts_in number

-- an embedded message by its fields, where it is there
abbrev pub embedded : {A : Type 0} → (List Entry → Result A Fault) → ℕ → List Entry →
    Result (Option A) Fault
embedded said number fields =
    if is_present number fields
    then (parts_in number fields >>= said >>= λ message. Ok (Some message))
    else Ok None

-- the same in these bytes
abbrev pub embedded_within : {A : Type 0} → (List Entry → Result A Fault) → ℕ → List ℕ →
    Result (Option A) Fault
embedded_within said number bytes = fields_of bytes >>= embedded said number
