-- Columns as they are answered: those of dictionaries as indices of 32 bits over the texts that
-- they hold, and no others.
use Rattle.std.specs.Prelude.{◌≡◌, ◌<◌, ℕ, pos, ◌+◌, List, [], ◌∷◌, ◌++◌, All, map}
use Rattle.scan_base.specs.declared.value.Value.{Value}
use Rattle.scan_base.specs.declared.value.Value.TheVariants.{Null, Text}
use Rattle.scan_base.specs.Value.{IsTextOrNull}
use Rattle.arrow_types.specs.declared.data_type.IntegerType.TheVariants.{Int32}
use Rattle.arrow_types.specs.declared.data_type.DataType.{DataType}
use Rattle.arrow_types.specs.declared.data_type.DataType.TheVariants.{Dictionary}
use Rattle.arrow_types.specs.declared.schema.Field.{Field}
use Rattle.arrays.specs.declared.layout.Layout.TheVariants as layout
use Rattle.arrays.specs.Indices.{IndicesAt}
use Rattle.arrays.specs.Number.{integer_at}
use Rattle.arrays.specs.Column.{ColumnAt, slot_of, values_of}
use Rattle.arrays.specs.Texts.{texts_values}
use Rattle.dictionary_answers.specs.declared.batches.ColumnDictionary.{ColumnDictionary}
use Rattle.dictionary_answers.specs.Firsts.{firsts, bytes_in}

-- The column lies as indices of 32 bits over a dictionary of these texts. Where a slot is null, its
-- index is 0.
pub record LiesOver (texts : List (List ℕ)) (column : ColumnAt) : Type 0 where
  pub cells : IndicesAt
  pub layout : column.layout ≡ layout.Indices cells
  pub index : cells.index ≡ Int32
  pub dictionary : cells.dictionary ≡ map Text texts
  pub zeros : (slot : ℕ) → slot < column.len → slot_of column slot ≡ Null →
      integer_at cells.index cells.values (column.first + slot) ≡ pos 0

-- a column may be answered as one of this type: where that is a dictionary, it holds texts
abbrev pub IsCodable : DataType → ColumnAt → Type 0
IsCodable (Dictionary encoding) column = All IsTextOrNull (values_of column)
IsCodable _ column = Unit {0}

-- a column as it is answered: over its own texts, where its type is a dictionary, and else as it is
abbrev pub IsAnswered : DataType → ColumnAt → ColumnAt → Type 0
IsAnswered (Dictionary encoding) column made =
    (values_of made ≡ values_of column) × LiesOver (firsts (values_of column)) made
IsAnswered _ column made = made ≡ column

-- how many bytes the texts of a column have that is answered so
abbrev pub column_bytes : DataType → ColumnAt → ℕ
column_bytes (Dictionary encoding) column = bytes_in (firsts (values_of column))
column_bytes _ column = 0

-- the values of the dictionary over which a column lies then, if it lies over one
abbrev pub column_dictionary : DataType → ColumnAt → List (List Value)
column_dictionary (Dictionary encoding) column = map Text (firsts (values_of column)) ∷ []
column_dictionary _ column = []

-- the same of one column for each field
abbrev pub AreCodable : List Field → List ColumnAt → Type 0
AreCodable [] [] = Unit {0}
AreCodable (field ∷ fields) (column ∷ columns) =
    IsCodable field.data_type column × AreCodable fields columns
AreCodable _ _ = ⊥

abbrev pub AreAnswered : List Field → List ColumnAt → List ColumnAt → Type 0
AreAnswered [] [] [] = Unit {0}
AreAnswered (field ∷ fields) (column ∷ columns) (made ∷ more) =
    IsAnswered field.data_type column made × AreAnswered fields columns more
AreAnswered _ _ _ = ⊥

-- the dictionaries of all columns, each with the number of its column, where the first has this
-- number
abbrev pub dictionaries_of : ℕ → List Field → List ColumnAt → List (ℕ × List Value)
dictionaries_of number (field ∷ fields) (column ∷ columns) =
    map (λ values. (number, values)) (column_dictionary field.data_type column)
    ++ dictionaries_of (number + 1) fields columns
dictionaries_of number _ _ = []

-- a dictionary as it is made: the number of its column, and its values
abbrev pub dictionary_seen : ColumnDictionary → ℕ × List Value
dictionary_seen made = (made.number, texts_values made.texts)

abbrev pub coded_bytes : List Field → List ColumnAt → ℕ
coded_bytes (field ∷ fields) (column ∷ columns) =
    column_bytes field.data_type column + coded_bytes fields columns
coded_bytes _ _ = 0
