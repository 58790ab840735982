-- Inside: the values of a column, and the columns of a batch.
use Rattle.std.specs.Prelude.{◌≡◌, ◌⊎◌, ◌≤◌, ◌<◌, ◌^◌, ℕ, List, All, length, map, get_or, Some}
use Rattle.std.specs.Prelude.{None}
use Rattle.scan_base.specs.Value.{value_of}
use Rattle.scan_base.specs.declared.fault.Fault.{Fault}
use Rattle.scan_base.specs.declared.fault.Fault.TheVariants.{LimitReached, OutOfMemory}
use Rattle.scan_base.specs.declared.value.Value.TheVariants.{Null}
use Rattle.scan_base.specs.declared.value.ValueRef.{ValueRef}
use Rattle.arrow_types.specs.declared.schema.Field.{Field}
use Rattle.arrays.specs.Column.{ColumnAt, values_of}
use Rattle.arrays.specs.TypedLayouts.{IsOfType, IsValueOf}
use Rattle.arrays.specs.WrittenSlots.{texts_joined}
use Rattle.csv_columns.specs.FieldValues.{cell_in}
use Rattle.csv_input.specs.inside.Chunks.{ChunkAt, field_in}

-- a field of the column says no value of it
pub record HasWrongCell (chunk : ChunkAt) (column : Field) (number : ℕ) : Type 0 where
  pub row : ℕ
  pub there : row < chunk.rows
  pub none : cell_in column (field_in chunk row number) ≡ None

-- the values of the column's first fields
pub record AreCells (chunk : ChunkAt) (column : Field) (number : ℕ) (cells : List ValueRef)
    (count : ℕ) : Type 0 where
  pub many : length cells ≡ count
  pub each : (k : ℕ) → k < count →
      cell_in column (field_in chunk k number) ≡ Some (get_or (map value_of cells) k Null)
  pub typed : All (λ value. IsValueOf column.data_type (value_of value)) cells

-- the texts of the column's fields are too long for its offsets
pub record HasLongCells (chunk : ChunkAt) (column : Field) (number : ℕ) : Type 0 where
  pub cells : List ValueRef
  pub are : AreCells chunk column number cells chunk.rows
  pub long : 2 ^ 31 ≤ length (texts_joined (map value_of cells))

-- why no column is made of its fields
abbrev pub WhyNoColumn : ChunkAt → Field → ℕ → Fault → Type 0
WhyNoColumn chunk column number fault =
    (fault ≡ OutOfMemory) ⊎ ((fault ≡ LimitReached) × HasLongCells chunk column number)

-- a column that holds the values of its fields
pub record IsColumnIn (chunk : ChunkAt) (column : Field) (number : ℕ)
    (made : ColumnAt) : Type 0 where
  pub typed : IsOfType column.data_type made.layout
  pub long : made.len ≡ chunk.rows
  pub each : (k : ℕ) → k < chunk.rows →
      cell_in column (field_in chunk k number) ≡ Some (get_or (values_of made) k Null)

-- the first columns do
pub record AreColumnsIn (chunk : ChunkAt) (columns : List Field) (made : List ColumnAt)
    (count : ℕ) : Type 0 where
  pub many : length made ≡ count
  pub each : (k : ℕ) (d : Field) (e : ColumnAt) → k < count →
      IsColumnIn chunk (get_or columns k d) k (get_or made k e)

-- a column has a field that says no value of it
pub record HasWrongColumn (chunk : ChunkAt) (columns : List Field) : Type 0 where
  pub number : ℕ
  pub there : number < length columns
  pub wrong : (d : Field) → HasWrongCell chunk (get_or columns number d) number

-- a column has texts that are too long
pub record HasLongColumn (chunk : ChunkAt) (columns : List Field) : Type 0 where
  pub number : ℕ
  pub there : number < length columns
  pub long : (d : Field) → HasLongCells chunk (get_or columns number d) number

-- why no columns are made
abbrev pub WhyNoColumns : ChunkAt → List Field → Fault → Type 0
WhyNoColumns chunk columns fault =
    (fault ≡ OutOfMemory) ⊎ ((fault ≡ LimitReached) × HasLongColumn chunk columns)
