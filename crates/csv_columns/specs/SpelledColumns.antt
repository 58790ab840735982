-- How columns are spelled: a record of CSV, with a field for each column.
use Rattle.std.specs.Prelude.{◌≡◌, ◌<◌, ℕ, Bool as Truth, true, false, List, [], ◌∷◌, ◌++◌, length}
use Rattle.std.specs.Prelude.{map, get_or, codes}
use Rattle.csv.specs.Records.{trimmed}
use Rattle.arrow_types.specs.declared.data_type.DataType.{DataType}
use Rattle.arrow_types.specs.declared.data_type.DataType.TheVariants.{Number, Bool}
use Rattle.arrow_types.specs.declared.schema.Field.{Field}
use Rattle.arrow_types.specs.declared.schema.Schema.{Schema}
use Rattle.number_words.specs.NumberTexts.{word}

-- the word for a type
abbrev pub word_of : DataType → List ℕ
word_of (Number kind) = word kind
word_of Bool = codes "bool"
word_of _ = codes "utf8"

-- a question mark where nulls may stand
abbrev pub mark_of : Truth → List ℕ
mark_of true = codes "?"
mark_of false = []

-- a column: its name, a colon, the word for its type, and the mark
abbrev pub spelled : Field → List ℕ
spelled column = column.name ++ (codes ":" ++ (word_of column.data_type ++ mark_of column.nullable))

-- these texts spell the columns
pub record AreSpelledAs (spellings : List (List ℕ)) (columns : List Field) : Type 0 where
  pub many : length columns ≡ length spellings
  pub each : (k : ℕ) (d : Field) → k < length spellings →
      spelled (get_or columns k d) ≡ get_or spellings k []

-- a text of one record spells the columns; white space around its fields is no part
abbrev pub Spells : List (List (List ℕ)) → Schema → Type 0
Spells records schema =
    (fields : List (List ℕ)) × (records ≡ fields ∷ [])
    × AreSpelledAs (map trimmed fields) schema.fields
