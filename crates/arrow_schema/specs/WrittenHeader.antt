-- How the header of a schema is laid out where it is written, and a header in a stream.
use Rattle.std.specs.Prelude.{◌≡◌, ℕ, List, [], ◌∷◌, ◌++◌, length, map}
use Rattle.std.specs.Prelude.{replicate, Option, Some, None, option_map, Ok}
use Rattle.flatbuf.specs.Block.{Part, Given, Absent, Number, Offset, little, padded, table_part}
use Rattle.flatbuf.specs.Block.{text_part, tables_part}
use Rattle.arrow_types.specs.declared.data_type.DataType.{DataType}
use Rattle.arrow_types.specs.declared.data_type.DictionaryEncoding.{DictionaryEncoding}
use Rattle.arrow_types.specs.declared.schema.Field.{Field}
use Rattle.arrow_types.specs.declared.schema.Schema.{Schema}
use Rattle.arrow_types.specs.DataType.{encoding_of}
use Rattle.arrow_types.specs.Schema.{IsSchema}
use Rattle.arrow_schema.specs.declared.header.HeaderKind.TheVariants as header
use Rattle.arrow_schema.specs.Message.{message_bytes}
use Rattle.arrow_schema.specs.TypeTables.{flag, integer_part, type_number, type_part}
use Rattle.arrow_schema.specs.Header.{schema_of}

-- a DictionaryEncoding table: its id, and the type of its indices
unfoldable pub dictionary_part : DictionaryEncoding → Part
dictionary_part encoding =
    table_part (Number encoding.id ∷ Offset (integer_part encoding.index) ∷ [])

-- what a slot is given that may lead to a table
abbrev pub given_if : Option Part → Given
given_if None = Absent
given_if (Some part) = Offset part

-- what the slot of a field's dictionary is given
abbrev pub dictionary_given : DataType → Given
dictionary_given data_type = given_if (option_map dictionary_part (encoding_of data_type))

-- a Field table: name, nullable, the type's kind, the type, the dictionary, and no children
abbrev pub field_slots : Field → List Given
field_slots field =
    Offset (text_part field.name)
    ∷ Number (flag field.nullable)
    ∷ Number (type_number field.data_type)
    ∷ Offset (type_part field.data_type)
    ∷ dictionary_given field.data_type
    ∷ Offset (tables_part [])
    ∷ []

unfoldable pub field_part : Field → Part
field_part field = table_part (field_slots field)

-- a Schema table: little-endian, which is the default, and the fields
unfoldable pub schema_part : Schema → Part
schema_part schema = table_part (Absent ∷ Offset (tables_part (map field_part schema.fields)) ∷ [])

-- the message of a schema, which has no body
abbrev pub schema_bytes : Schema → List ℕ
schema_bytes schema = message_bytes header.Schema (schema_part schema) 0

-- a schema that was written is read again
abbrev pub SchemasReadBack : Type 0
SchemasReadBack = (schema : Schema) → IsSchema schema → schema_of (schema_bytes schema) ≡ Ok schema

-- A header in IPC form: four bytes of 255, a length of four bytes, and the header with its zeros,
-- which the length counts.
unfoldable pub encapsulated : List ℕ → List ℕ
encapsulated header = replicate 4 255 ++ (little 4 (length (padded header)) ++ padded header)
