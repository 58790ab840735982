-- Inside: how the columns of the list of tables are made.
use Rattle.std.specs.Prelude.{◌≡◌, ◌<◌, ◌^◌, ℕ, true, List, length, map, All, codes}
use Rattle.std.specs.Str.{is_utf8}
use Rattle.scan_base.specs.declared.value.Value.{Value}
use Rattle.scan_base.specs.declared.value.Value.TheVariants.{Null, Text}
use Rattle.arrow_types.specs.declared.data_type.DataType.TheVariants.{Utf8}
use Rattle.arrays.specs.Column.{ColumnAt, values_of}
use Rattle.arrays.specs.TypedLayouts.{IsOfType}
use Rattle.arrays.specs.WrittenSlots.{offsets_from, texts_joined}
use Rattle.table_versions.specs.Table.{Name}
use Rattle.table_versions.specs.StoredTables.{CatalogAt}

-- texts as the values of a column
abbrev pub text_values : List (List ℕ) → List Value
text_values texts = map Text texts

-- these bytes are texts one after another, and these offsets cut them
pub record HoldTexts (offsets bytes : List ℕ) (texts : List (List ℕ)) : Type 0 where
  pub cut : offsets ≡ offsets_from 0 (text_values texts)
  pub joined : bytes ≡ texts_joined (text_values texts)
  pub short : length bytes < 2 ^ 31
  pub utf8 : All (λ text. is_utf8 text ≡ true) texts

-- a column of texts has these values
pub record HasValues (values : List Value) (column : ColumnAt) : Type 0 where
  pub are : values_of column ≡ values
  pub typed : IsOfType Utf8 column.layout

-- ---- a value for each table

-- none
abbrev pub nulls_listed : CatalogAt → List Value
nulls_listed catalog = map (λ entry. Null) catalog

-- its name
abbrev pub names_listed : CatalogAt → List Name
names_listed catalog = map (λ entry. entry.0) catalog

-- that it is a table
abbrev pub types_listed : CatalogAt → List Name
types_listed catalog = map (λ entry. codes "TABLE") catalog
