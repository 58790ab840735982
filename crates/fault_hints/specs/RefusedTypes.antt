-- The first column of a schema whose type is not taken, by Arrow's `Schema.fbs`.
use Rattle.std.specs.Prelude.{ℕ, zero, suc, ◌+◌, ◌==◌, List, [], ◌∷◌, ◌++◌}
use Rattle.std.specs.Prelude.{Option, Some, None, Result, Ok, Err, codes, if◌then◌else◌}
use Rattle.std.specs.Option.{option_or}
use Rattle.std.specs.Fmt.{decimal}
use Rattle.scan_base.specs.declared.fault.Fault.{Fault}
use Rattle.scan_base.specs.declared.fault.Fault.TheVariants.{BadFlatbuffer, UnsupportedArrow}
use Rattle.scan_base.specs.Reading.{◌>>=◌, wanted}
use Rattle.flatbuf.specs.Layout.{TableAt, VectorAt}
use Rattle.flatbuf.specs.Place.{element_of, scalar_of, table_of, text_of, vector_of}
use Rattle.arrow_types.specs.declared.data_type.DataType.{DataType}
use Rattle.arrow_schema.specs.Fields.{value_type_of}
use Rattle.arrow_schema.specs.Header.{header_of, message_of}
use Rattle.fault_hints.specs.declared.refused_types.ColumnType.{ColumnType}
use Rattle.fault_hints.specs.declared.refused_types.ColumnRead.{ColumnRead}

-- ---- a type that is not taken: the number of its kind, and of a decimal its precision and scale

-- the names of kinds
abbrev pub kind_names : List (ℕ × List ℕ)
kind_names =
    (1, codes "null") ∷ (2, codes "integer of another width") ∷ (3, codes "floating point")
    ∷ (4, codes "binary") ∷ (8, codes "date64") ∷ (9, codes "time of another width")
    ∷ (10, codes "timestamp of another unit") ∷ (11, codes "interval")
    ∷ (12, codes "list") ∷ (13, codes "struct") ∷ (14, codes "union")
    ∷ (15, codes "fixed size binary") ∷ (16, codes "fixed size list") ∷ (17, codes "map")
    ∷ (18, codes "duration of another unit") ∷ (19, codes "large binary")
    ∷ (20, codes "large utf8") ∷ (21, codes "large list") ∷ (23, codes "binary view")
    ∷ (24, codes "utf8 view") ∷ []

-- the name of a kind among these
abbrev pub name_among : List (ℕ × List ℕ) → ℕ → List ℕ
name_among [] kind = codes "another type"
name_among (row ∷ rows) kind = if kind == row.0 then row.1 else name_among rows kind

-- the words for a type
abbrev pub type_words : ColumnType → List ℕ
type_words type =
    if type.kind == 7 then
    codes "decimal(" ++ (decimal type.first ++ (codes ", " ++ (decimal type.second ++ codes ")")))
    else name_among kind_names type.kind

-- a type of a kind, with these numbers
abbrev pub typed : ℕ → ℕ → ℕ → ColumnType
typed kind first second = record { kind = kind; first = first; second = second }

-- ---- a column

-- a column: its name and its type
pub record ColumnAt : Type 0 where
  pub name : List ℕ
  pub type : ColumnType

-- the same of a column of the code
abbrev pub column_at : ColumnRead → ColumnAt
column_at column = record { name = column.name.now; type = column.data_type }

-- the type of a kind that a table says
unfoldable pub type_said : ℕ → TableAt → Result ColumnType Fault
type_said kind table =
    if kind == 7 then
    (scalar_of 4 table 0 0 >>= λ precision. (scalar_of 4 table 1 0 >>= λ scale.
    Ok (typed kind precision scale))) else
    Ok (typed kind 0 0)

-- the column that a Field table says
unfoldable pub column_said : TableAt → Result ColumnAt Fault
column_said field = do
  text ← text_of field 0
  name ← wanted text BadFlatbuffer
  kind ← scalar_of 1 field 2 0
  found ← table_of field 3
  table ← wanted found BadFlatbuffer
  type ← type_said kind table
  Ok (record { name = name; type = type })

-- a column, where the type of its values is refused as one that is not taken
abbrev pub refused_of : Result DataType Fault → Result ColumnAt Fault → Option ColumnAt
refused_of (Err UnsupportedArrow) (Ok column) = Some column
refused_of _ _ = None

-- the column that a Field table says, where its type is not taken
abbrev pub refused_in : Result TableAt Fault → Option ColumnAt
refused_in (Ok field) = refused_of (value_type_of field) (column_said field)
refused_in (Err fault) = None

abbrev pub refused_at : VectorAt → ℕ → Option ColumnAt
refused_at vector place = refused_in (element_of vector place)

-- the first of so many columns from a place on whose type is not taken
abbrev pub first_refused : VectorAt → ℕ → ℕ → Option ColumnAt
first_refused vector place zero = None
first_refused vector place (suc left) =
    option_or (refused_at vector place) (first_refused vector (place + 1) left)

-- ---- a header

-- the vector of the columns of a schema's header
unfoldable pub columns_in : List ℕ → Result VectorAt Fault
columns_in header = do
  message ← message_of header
  schema ← header_of message
  found ← vector_of schema 1
  wanted found BadFlatbuffer

-- the line for a column
abbrev pub column_line : Option ColumnAt → List ℕ
column_line (Some column) =
    codes "column " ++ (column.name ++ (codes ": " ++ (type_words column.type
    ++ codes " is not taken\n")))
column_line None = codes "a type is not taken, or a body is compressed\n"

abbrev pub columns_line : Result VectorAt Fault → List ℕ
columns_line (Ok vector) = column_line (first_refused vector 0 vector.count)
columns_line (Err fault) = column_line None

-- what is said of the schema that a header names
abbrev pub refused_type_line : List ℕ → List ℕ
refused_type_line header = columns_line (columns_in header)
