-- What a buffer says of a schema, in the words of Arrow's `Message.fbs` and `Schema.fbs` and of the
-- FlatBuffers format: the slots of each table, with no order of reading.
use Rattle.std.specs.Prelude.{◌≡◌, ◌↔◌, ◌≤◌, ℕ, false, List, length, Option, Some, None, Ok}
use Rattle.std.specs.Prelude.{IsTrue, slice_get}
use Rattle.scan_base.specs.Limits.{most_columns, most_name_bytes}
use Rattle.scan_base.specs.Lists.{repeats}
use Rattle.flatbuf.specs.Layout.{TableAt, VectorAt, IsBytes, HasRoot, HasScalar, HasTable}
use Rattle.flatbuf.specs.Layout.{HasVector, HasText, HasElement}
use Rattle.arrow_types.specs.declared.data_type.IntegerType.{IntegerType}
use Rattle.arrow_types.specs.declared.data_type.IntegerType.TheVariants.{Int32}
use Rattle.arrow_types.specs.declared.data_type.DataType.{DataType}
use Rattle.arrow_types.specs.declared.data_type.DataType.TheVariants.{Utf8, Dictionary}
use Rattle.arrow_types.specs.declared.data_type.DictionaryEncoding.{DictionaryEncoding}
use Rattle.arrow_types.specs.declared.schema.Field.{Field}
use Rattle.arrow_types.specs.declared.schema.Schema.{Schema}
use Rattle.arrow_types.specs.Schema.{same_dictionary, IsSchema}
use Rattle.arrow_schema.specs.Fields.{is_bare}
use Rattle.arrow_schema.specs.Header.{schema_of}
use Rattle.arrow_schema.specs.TypeTables.{HasFlag, SaysInteger, SaysType, type_number}

-- the type of a dictionary's indices: signed numbers of 32 bits where there is no table
abbrev pub SaysIndex : Option TableAt → IntegerType → Type 0
SaysIndex None integer = integer ≡ Int32
SaysIndex (Some table) integer = SaysInteger table integer

-- a DictionaryEncoding table: id, indexType, and dictionaryKind 0
pub record SaysDictionary (table : TableAt) (encoding : DictionaryEncoding) : Type 0 where
  pub id : HasScalar 8 table 0 0 encoding.id
  pub index : Option TableAt
  pub indexed : HasTable table 1 index
  pub typed : SaysIndex index encoding.index
  pub kind : HasScalar 2 table 3 0 0

-- a field's type is that of its values where it has no dictionary; a dictionary is one of texts
abbrev pub SaysEncoding : DataType → Option TableAt → DataType → Type 0
SaysEncoding values None data_type = data_type ≡ values
SaysEncoding values (Some table) data_type =
    (values ≡ Utf8) × ((encoding : DictionaryEncoding) × (data_type ≡ Dictionary encoding)
    × SaysDictionary table encoding)

-- a Field table: name, nullable, the type's kind and table, the dictionary, and no children
pub record SaysField (table : TableAt) (field : Field) : Type 0 where
  pub name : HasText table 0 (Some field.name)
  pub some : 1 ≤ length field.name
  pub few : length field.name ≤ most_name_bytes
  pub nullable : HasFlag table 1 field.nullable
  pub values : DataType
  pub kind : HasScalar 1 table 2 0 (type_number values)
  pub type : TableAt
  pub typed : HasTable table 3 (Some type)
  pub says : SaysType values type
  pub dictionary : Option TableAt
  pub encoded : HasTable table 4 dictionary
  pub encoding : SaysEncoding values dictionary field.data_type
  pub children : Option VectorAt
  pub childless : HasVector table 5 children
  pub bare : IsTrue (is_bare children)

-- an index of a vector of Field tables leads to one that says this field
abbrev pub SaysFieldAt : VectorAt → ℕ → Field → Type 0
SaysFieldAt vector index field =
    (table : TableAt) × HasElement vector index table × SaysField table field

-- a Schema table: little-endian (0), and one field or more, up to the limit, of which no two have
-- one dictionary
pub record SaysColumns (table : TableAt) (schema : Schema) : Type 0 where
  pub endianness : HasScalar 2 table 0 0 0
  pub vector : VectorAt
  pub listed : HasVector table 1 (Some vector)
  pub count : length schema.fields ≡ vector.count
  pub some : 1 ≤ vector.count
  pub few : vector.count ≤ most_columns
  pub fields : (index : ℕ) (field : Field) → slice_get schema.fields index ≡ Some field →
      SaysFieldAt vector index field
  pub apart : repeats same_dictionary schema.fields ≡ false

-- the buffer of a schema: its root is a Message of version V5 (4), whose header is a Schema (1)
pub record SaysSchema (bytes : List ℕ) (schema : Schema) : Type 0 where
  pub message : TableAt
  pub root : HasRoot bytes message
  pub version : HasScalar 2 message 0 0 4
  pub kind : HasScalar 1 message 1 0 1
  pub header : TableAt
  pub headed : HasTable message 2 (Some header)
  pub columns : SaysColumns header schema

-- what is read of a buffer is just what it says
abbrev pub ReadIsSaid : Type 0
ReadIsSaid = (bytes : List ℕ) (schema : Schema) → IsBytes bytes →
    (schema_of bytes ≡ Ok schema) ↔ SaysSchema bytes schema

-- a schema that was read may be written
abbrev pub ReadIsSchema : Type 0
ReadIsSchema = (bytes : List ℕ) (schema : Schema) → IsBytes bytes → schema_of bytes ≡ Ok schema →
    IsSchema schema
