-- How many values stand in one column of a batch.
use Rattle.std.specs.Prelude.{◌≤◌, ◌<◌, ◌^◌, ℕ, Bool, true, false, List, length, take}
use Rattle.arrow_types.specs.declared.data_type.DataType.{DataType}
use Rattle.arrow_types.specs.declared.data_type.DataType.TheVariants.{Utf8, Dictionary}
use Rattle.arrays.specs.WrittenSlots.{texts_joined}
use Rattle.scan_base.specs.declared.value.Value.{Value}

-- whether a type's values are texts
abbrev pub has_texts : DataType → Bool
has_texts Utf8 = true
has_texts (Dictionary encoding) = true
has_texts _ = false

-- offsets name each byte of the texts, and those of more than one value have no more than so many
-- bytes
pub record AreLight (most : ℕ) (values : List Value) : Type 0 where
  pub named : length (texts_joined values) < 2 ^ 31
  pub light : 1 < length values → length (texts_joined values) ≤ most

-- the texts of so many values, from the first on, are light
pub record Fits (most : ℕ) (values : List Value) (count : ℕ) : Type 0 where
  pub some : 0 < count
  pub within : count ≤ length values
  pub light : AreLight most (take count values)

-- not even one fits: the text of the first has more bytes than offsets name
abbrev pub NoneFits : List Value → Type 0
NoneFits values = 2 ^ 31 ≤ length (texts_joined (take 1 values))
