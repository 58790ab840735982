-- The types of columns that are copied, and of those of an answer.
use Rattle.std.specs.Prelude.{◌≡◌, ◌⊎◌, ℕ, ◌+◌, List, [], ◌∷◌, map, All, None}
use Rattle.std.specs.List.{AllZip}
use Rattle.arrow_types.specs.declared.data_type.IntegerType.TheVariants.{Int32}
use Rattle.arrow_types.specs.declared.data_type.DataType.{DataType}
use Rattle.arrow_types.specs.declared.data_type.DataType.TheVariants.{Utf8, Dictionary}
use Rattle.arrow_types.specs.declared.schema.Field.{Field}
use Rattle.arrow_types.specs.declared.schema.Schema.{Schema}
use Rattle.arrow_types.specs.Schema.{IsSchema}
use Rattle.arrow_types.specs.DataType.{encoding_of}

-- slots that are copied from several columns have no dictionary in common: where those are
-- dictionaries, they lie as texts
abbrev pub copied_type : DataType → DataType
copied_type (Dictionary encoding) = Utf8
copied_type other = other

-- columns of the one type lie as one of the other: of that type itself, or of the one in which they
-- are copied
abbrev pub LiesAs : DataType → DataType → Type 0
LiesAs data_type lies = (lies ≡ data_type) ⊎ (lies ≡ copied_type data_type)

-- The type of the result's column of this number, counted from 0, for values of this type. A
-- dictionary of texts is answered as the one of that id, with indices of 32 bits.
abbrev pub answered_at : ℕ → DataType → DataType
answered_at number (Dictionary encoding) = Dictionary (record { id = number; index = Int32 })
answered_at number other = other

-- the same of columns one next to another, the first of which has this number
abbrev pub answered_from : ℕ → List DataType → List DataType
answered_from number [] = []
answered_from number (data_type ∷ types) =
    answered_at number data_type ∷ answered_from (number + 1) types

-- a column keeps its name, and whether it may be null
abbrev pub answered_field : ℕ → Field → Field
answered_field number field = record field { data_type = answered_at number field.data_type }

-- Columns of these types lie after the fields of a result, which say as what their values are
-- answered.
pub record LieBehind (fields : List Field) (lies : List DataType) : Type 0 where
  pub types : List DataType
  pub answered : map (λ field. field.data_type) fields ≡ answered_from 0 types
  pub lie : AllZip LiesAs types lies

-- the columns of a schema, each dictionary of texts as texts
abbrev pub plain_field : Field → Field
plain_field field = record field { data_type = copied_type field.data_type }

abbrev pub plain_schema : Schema → Schema
plain_schema schema = record { fields = map plain_field schema.fields }

-- without its dictionaries a schema is one
abbrev pub PlainIsSchema : Type 0
PlainIsSchema = (schema : Schema) → IsSchema schema → IsSchema (plain_schema schema)

-- no column has a dictionary then
abbrev pub PlainHasNone : Type 0
PlainHasNone = (schema : Schema) →
    All (λ (field : Field). encoding_of field.data_type ≡ None) (plain_schema schema).fields

-- and there is nothing more to take away
abbrev pub PlainStays : Type 0
PlainStays = (schema : Schema) → plain_schema (plain_schema schema) ≡ plain_schema schema
