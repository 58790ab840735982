-- What the header of a message names, by the places of its tables. The first thing that is not so
-- gives the fault, in the order in which the lines below stand.
use Rattle.std.specs.Prelude.{ℕ, ◌==◌, ◌&&◌, not, Bool, true, false, nat_lt, nat_le, List, [], ◌∷◌}
use Rattle.std.specs.Prelude.{Result, Ok}
use Rattle.std.specs.List.{range_with_len}
use Rattle.scan_base.specs.declared.fault.Fault.{Fault}
use Rattle.scan_base.specs.declared.fault.Fault.TheVariants.{UnsupportedArrow, LimitReached}
use Rattle.scan_base.specs.Limits.{most_columns}
use Rattle.scan_base.specs.Reading.{◌>>=◌, demand}
use Rattle.scan_base.specs.Lists.{each, repeats}
use Rattle.flatbuf.specs.Layout.{TableAt, VectorAt}
use Rattle.flatbuf.specs.Place.{root_of, scalar_of, element_of}
use Rattle.arrow_types.specs.declared.schema.Field.{Field}
use Rattle.arrow_types.specs.declared.schema.Schema.{Schema}
use Rattle.arrow_types.specs.Schema.{same_dictionary}
use Rattle.arrow_schema.specs.declared.header.HeaderKind.{HeaderKind}
use Rattle.arrow_schema.specs.declared.header.HeaderKind.TheVariants as header
use Rattle.arrow_schema.specs.Meanings.{meaning_of}
use Rattle.arrow_schema.specs.Fields.{vector_wanted, field_in}
unfoldable pub use Rattle.arrow_schema.specs.Fields.{table_wanted}

-- ---- messages

-- a message, by its header's kind and where its own table is
pub record MessageAt : Type 0 where
  pub kind : HeaderKind
  pub table : TableAt

-- the kinds of headers that there are here, by their numbers
abbrev pub header_kinds : List (ℕ × HeaderKind)
header_kinds =
    (1, header.Schema) ∷ (2, header.DictionaryBatch) ∷ (3, header.RecordBatch) ∷ []

-- the kind of a number, or that there is none such here
abbrev pub header_kind : ℕ → Result HeaderKind Fault
header_kind number = meaning_of header_kinds number

-- the message that a buffer holds, of metadata version V5, which is 4
unfoldable pub message_of : List ℕ → Result MessageAt Fault
message_of bytes = do
  message ← root_of bytes
  version ← scalar_of 2 message 0 0
  _ ← demand (version == 4) UnsupportedArrow
  kind ← scalar_of 1 message 1 0
  kind ← header_kind kind
  Ok (record { kind = kind; table = message })

-- the header's table
abbrev pub header_of : MessageAt → Result TableAt Fault
header_of message = table_wanted message.table 2

-- how many bytes of body the message claims
abbrev pub body_length_of : MessageAt → Result ℕ Fault
body_length_of message = scalar_of 8 message.table 3 0

-- ---- schemas

-- field `index` of a vector of Field tables
unfoldable pub field_at : VectorAt → ℕ → Result Field Fault
field_at vector index = element_of vector index >>= λ field. field_in field

-- each field of a vector of one Field table or more, up to the limit, in order
unfoldable pub fields_of : VectorAt → Result (List Field) Fault
fields_of vector = do
  _ ← demand (nat_lt 0 vector.count && nat_le vector.count most_columns) LimitReached
  each (field_at vector) (range_with_len 0 vector.count)

-- the schema that a message names, of little-endian columns of any type
unfoldable pub schema_in : MessageAt → Result Schema Fault
schema_in message = do
  header ← header_of message
  endianness ← scalar_of 2 header 0 0
  _ ← demand (endianness == 0) UnsupportedArrow
  vector ← vector_wanted header 1
  fields ← fields_of vector
  _ ← demand (not (repeats same_dictionary fields)) UnsupportedArrow
  Ok (record { fields = fields })

-- whether a header is a schema
abbrev pub is_schema : HeaderKind → Bool
is_schema header.Schema = true
is_schema _ = false

-- the message that a buffer holds, where its header is a schema
unfoldable pub schema_message_of : List ℕ → Result MessageAt Fault
schema_message_of bytes = do
  message ← message_of bytes
  _ ← demand (is_schema message.kind) UnsupportedArrow
  Ok message

-- the schema that a buffer holds, of any type
unfoldable pub schema_of : List ℕ → Result Schema Fault
schema_of bytes = schema_message_of bytes >>= schema_in
