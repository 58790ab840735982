-- What a Field table names: a column. The first thing that is not so gives the fault, in the order
-- in which the lines below stand.
use Rattle.std.specs.Prelude.{ℕ, ◌==◌, ◌&&◌, not, Bool, true, nat_lt, nat_le, length, List}
use Rattle.std.specs.Prelude.{Option, Some, None, Result, Ok, Err}
use Rattle.scan_base.specs.declared.fault.Fault.{Fault}
use Rattle.scan_base.specs.declared.fault.Fault.TheVariants.{BadFlatbuffer, UnsupportedArrow}
use Rattle.scan_base.specs.declared.fault.Fault.TheVariants.{LimitReached}
use Rattle.scan_base.specs.Limits.{most_name_bytes}
use Rattle.scan_base.specs.Reading.{◌>>=◌, demand, wanted}
use Rattle.flatbuf.specs.Layout.{TableAt, VectorAt}
use Rattle.flatbuf.specs.Place.{field_of, scalar_of, table_of, text_of, vector_of}
use Rattle.arrow_types.specs.declared.data_type.IntegerType.{IntegerType}
use Rattle.arrow_types.specs.declared.data_type.IntegerType.TheVariants.{Int32}
use Rattle.arrow_types.specs.declared.data_type.DataType.{DataType}
use Rattle.arrow_types.specs.declared.data_type.DataType.TheVariants.{Utf8, Dictionary}
use Rattle.arrow_types.specs.declared.schema.Field.{Field}
use Rattle.arrow_schema.specs.TypeTables.{integer_of, type_of}

-- a table that has to be there
unfoldable pub table_wanted : TableAt → ℕ → Result TableAt Fault
table_wanted table slot = table_of table slot >>= λ found. wanted found BadFlatbuffer

-- a vector that has to be there
unfoldable pub vector_wanted : TableAt → ℕ → Result VectorAt Fault
vector_wanted table slot = vector_of table slot >>= λ found. wanted found BadFlatbuffer

-- ---- names

-- a name of one byte or more, up to the limit
unfoldable pub name_of : TableAt → Result (List ℕ) Fault
name_of field = do
  found ← text_of field 0
  name ← wanted found LimitReached
  _ ← demand (nat_lt 0 (length name) && nat_le (length name) most_name_bytes) LimitReached
  Ok name

-- ---- types

-- the type of a field's values: its kind is stored, and its table is there
unfoldable pub value_type_of : TableAt → Result DataType Fault
value_type_of field = do
  place ← field_of field 2
  _ ← wanted place BadFlatbuffer
  kind ← scalar_of 1 field 2 0
  type_of kind (table_wanted field 3)

-- no vector, or an empty one
abbrev pub is_bare : Option VectorAt → Bool
is_bare None = true
is_bare (Some vector) = vector.count == 0

-- a field has no children
unfoldable pub childless : TableAt → Result (Unit {0}) Fault
childless field = vector_of field 5 >>= λ children. demand (is_bare children) UnsupportedArrow

-- ---- dictionaries

-- the type of a dictionary's indices: 32 signed bits where it is not said
abbrev pub index_of : Option TableAt → Result IntegerType Fault
index_of None = Ok Int32
index_of (Some table) = integer_of table

-- what a DictionaryEncoding table says: an id, the type of the indices, and the one kind of
-- dictionary that there is
unfoldable pub dictionary_of : TableAt → Result DataType Fault
dictionary_of table = do
  id ← scalar_of 8 table 0 0
  found ← table_of table 1
  index ← index_of found
  kind ← scalar_of 2 table 3 0
  _ ← demand (kind == 0) UnsupportedArrow
  Ok (Dictionary (record { id = id; index = index }))

-- the type of a column: that of its values, or a dictionary, where they are texts
abbrev pub encoded : DataType → Option TableAt → Result DataType Fault
encoded values None = Ok values
encoded Utf8 (Some table) = dictionary_of table
encoded _ (Some table) = Err UnsupportedArrow

-- ---- fields

-- what a Field table says
unfoldable pub field_in : TableAt → Result Field Fault
field_in field = do
  name ← name_of field
  nullable ← scalar_of 1 field 1 0
  values ← value_type_of field
  _ ← childless field
  encoding ← table_of field 4
  data_type ← encoded values encoding
  Ok (record { name = name; nullable = not (nullable == 0); data_type = data_type })
